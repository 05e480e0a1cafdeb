-- `real::push_digits` meets its contract.
use Rattle.std.proofs.Common.{arith, sym, ◌∙◌, take_all}
use Rattle.text.specs.Parts.{none}
use Rattle.text.specs.PartsLaws.{is_digit_low, is_digit_high}
use Rattle.real.specs.StepLaws.{digit_below, below_more}
use Rattle.real.proofs.PlainLaws.{digits_next}
use Rattle.real.proofs.push_digits.Goals as goal

pub loop-b-init : goal.loop-b-init
loop-b-init c = record { few = omega arith; digits = none }

pub overflow_mul-c : goal.overflow_mul-c
overflow_mul-c c = omega (arith, below_more _ _ 17 (omega arith) c.loop-b.invariant.few)

pub overflow_sub-b : goal.overflow_sub-b
overflow_sub-b c = is_digit_low _ (sym c.is_digit.ensures ∙ c.if-not-is_digit.false)

pub overflow_add-c : goal.overflow_add-c
overflow_add-c c = omega (arith, c.from.ensures, c.type_inv.s c.loop-b.b-index, below_more _ _ 17 (omega arith) c.loop-b.invariant.few)

pub loop-b-preserved : goal.loop-b-preserved
loop-b-preserved c =
    let t = sym c.is_digit.ensures ∙ c.if-not-is_digit.false in
    let inv = c.loop-b.invariant in
    rw c.from.ensures record {
      few = digit_below _ _ _ (is_digit_high _ t) inv.few;
      digits = digits_next _ _ c.loop-b-test.true t inv.digits;
    }

pub returns : goal.returns
returns c = record { first = c.if-m-gt9.false; few = c.if-s-gt17.false; digits = rw (take_all _ _ c.loop-b-test.false) at c.loop-b.invariant.digits }
