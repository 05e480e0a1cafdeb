-- `record::check_factors` meets its contract.
use Rattle.std.proofs.Common.{sym, ◌∙◌, ap}
use Rattle.line.specs.Line.{verdict}
use Rattle.line.specs.LineLaws.{ok_passed}
use Rattle.record.specs.ConditionLaws.{condition_fault_factors}
use Rattle.record.proofs.check_factors.Goals as goal

pub returns-then-not-is_above_zero : goal.returns-then-not-is_above_zero
returns-then-not-is_above_zero c =
    let first = sym c.is_above_zero.ensures ∙ c.if-not-is_above_zero.true in
    c.breach.ensures ∙ ap verdict (sym (condition_fault_factors _ ∙ simp first))

pub returns-then-not-is_above_zero-2 : goal.returns-then-not-is_above_zero-2
returns-then-not-is_above_zero-2 c =
    let first = sym c.is_above_zero.ensures ∙ c.if-not-is_above_zero.false in
    let second = sym c.is_above_zero-2.ensures ∙ c.if-not-is_above_zero-2.true in
    c.breach-then-not-is_above_zero-2.ensures ∙ ap verdict (sym (condition_fault_factors _ ∙ simp (first, second)))

pub returns-then-not-is_above_zero-3 : goal.returns-then-not-is_above_zero-3
returns-then-not-is_above_zero-3 c =
    let first = sym c.is_above_zero.ensures ∙ c.if-not-is_above_zero.false in
    let second = sym c.is_above_zero-2.ensures ∙ c.if-not-is_above_zero-2.false in
    let third = sym c.is_above_zero-3.ensures ∙ c.if-not-is_above_zero-3.true in
    c.breach-then-not-is_above_zero-3.ensures ∙ ap verdict (sym (condition_fault_factors _ ∙ simp (first, second, third)))

pub returns : goal.returns
returns c =
    let first = sym c.is_above_zero.ensures ∙ c.if-not-is_above_zero.false in
    let second = sym c.is_above_zero-2.ensures ∙ c.if-not-is_above_zero-2.false in
    let third = sym c.is_above_zero-3.ensures ∙ c.if-not-is_above_zero-3.false in
    ok_passed (condition_fault_factors _ ∙ simp (first, second, third))
