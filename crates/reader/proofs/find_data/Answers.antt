-- `reader::find_data` meets its contract.
use mathlib.Core.Path.{sym, ◌∙◌}
use native.Mathlib.Omega.{arith}
use Rattle.reader.specs.FindLaws.{data_zero, data_none, data_other, data_no_case, data_found, body_within}
use Rattle.reader.proofs.find_data.Goals as goal

pub returns-in_err-checked_sub : goal.returns-in_err-checked_sub
returns-in_err-checked_sub c = c.from_residual.ensures ∙ data_zero _ _ (omega (arith, c.in_err-checked_sub.ensures))

pub returns-in_err-e : goal.returns-in_err-e
returns-in_err-e c =
    let none = sym c.in_err-e.was ∙ c.find_set.ensures in
    c.from_residual-in_err-e.ensures ∙ data_none _ _ _ (omega (arith, c.in_ok-checked_sub.ensures)) none

pub returns-then-e-ne58 : goal.returns-then-e-ne58
returns-then-e-ne58 c = data_other _ _ _ (omega (arith, c.in_ok-checked_sub.ensures)) _ (sym c.in_ok-e.was ∙ c.find_set.ensures) c.if-e-ne58.true

pub case_in-case-requires : goal.case_in-case-requires
case_in-case-requires c = body_within _ c.args.set _ (omega (arith, c.in_ok-checked_sub.ensures)) _ (sym c.in_ok-e.was ∙ c.find_set.ensures)

pub returns-then-case-ge8 : goal.returns-then-case-ge8
returns-then-case-ge8 c =
    let set = sym c.in_ok-e.was ∙ c.find_set.ensures in
    data_no_case _ _ _ (omega (arith, c.in_ok-checked_sub.ensures)) _ set c.if-e-ne58.false _ c.case_in-case.ensures c.if-case-ge8.true

pub count_in-count-requires : goal.count_in-count-requires
count_in-count-requires c = body_within _ c.args.set _ (omega (arith, c.in_ok-checked_sub.ensures)) _ (sym c.in_ok-e.was ∙ c.find_set.ensures)

pub returns : goal.returns
returns c =
    let set = sym c.in_ok-e.was ∙ c.find_set.ensures in
    let given = c.if-e-ne58.false in
    let case = c.case_in-case.ensures in
    data_found _ _ _ (omega (arith, c.in_ok-checked_sub.ensures)) _ set given _ case c.if-case-ge8.false _ c.count_in-count.ensures
