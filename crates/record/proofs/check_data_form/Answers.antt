-- `record::check_data_form` meets its contract.
use Rattle.std.proofs.Common.{sym, ◌∙◌, ap}
use Rattle.line.specs.Line.{verdict}
use Rattle.line.specs.LineLaws.{ok_passed}
use Rattle.record.specs.ConditionLaws.{condition_fault_data_form}
use Rattle.record.proofs.check_data_form.Goals as goal

pub returns-then-not-is_zero_integer : goal.returns-then-not-is_zero_integer
returns-then-not-is_zero_integer c =
    let even = sym c.is_zero_integer.ensures ∙ c.if-not-is_zero_integer.true in
    ok_passed (condition_fault_data_form _ ∙ simp even)

pub returns-then-not-is_zero_real : goal.returns-then-not-is_zero_real
returns-then-not-is_zero_real c =
    let uneven = sym c.is_zero_integer.ensures ∙ c.if-not-is_zero_integer.false in
    let first = sym c.is_zero_real.ensures ∙ c.if-not-is_zero_real.true in
    c.breach.ensures ∙ ap verdict (sym (condition_fault_data_form _ ∙ simp (uneven, first)))

pub returns-then-not-is_zero_real-2 : goal.returns-then-not-is_zero_real-2
returns-then-not-is_zero_real-2 c =
    let uneven = sym c.is_zero_integer.ensures ∙ c.if-not-is_zero_integer.false in
    let first = sym c.is_zero_real.ensures ∙ c.if-not-is_zero_real.false in
    let second = sym c.is_zero_real-2.ensures ∙ c.if-not-is_zero_real-2.true in
    c.breach-then-not-is_zero_real-2.ensures ∙ ap verdict (sym (condition_fault_data_form _ ∙ simp (uneven, first, second)))

pub returns : goal.returns
returns c =
    let uneven = sym c.is_zero_integer.ensures ∙ c.if-not-is_zero_integer.false in
    let first = sym c.is_zero_real.ensures ∙ c.if-not-is_zero_real.false in
    let second = sym c.is_zero_real-2.ensures ∙ c.if-not-is_zero_real-2.false in
    ok_passed (condition_fault_data_form _ ∙ simp (uneven, first, second))
