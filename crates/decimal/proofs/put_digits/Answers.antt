use mathlib.Core.Path.{◌∙◌}
use Rattle.decimal.specs.DigitLaws.{digits_of_zero, digits_of_plain, digits_of_start, digits_of_done}
use native.Mathlib.Omega.{arith}
use Rattle.decimal.proofs.put_digits.Goals as goal

pub loop-i-init : goal.loop-i-init
loop-i-init c = digits_of_start c.args.out.now _

pub loop-i-preserved-then-left-gt0 : goal.loop-i-preserved-then-left-gt0
loop-i-preserved-then-left-gt0 c =
    digits_of_zero _ _ _ _ (omega (arith, c.loop-i.auto.i, c.loop-i.auto.out)) c.loop-i-test.true c.if-left-gt0.true ∙ c.loop-i.invariant

pub loop-i-preserved : goal.loop-i-preserved
loop-i-preserved c =
    digits_of_plain _ _ _ _ (omega (arith, c.loop-i.auto.i, c.loop-i.auto.out)) c.loop-i-test.true c.if-left-gt0.false ∙ c.loop-i.invariant

pub returns : goal.returns
returns c = digits_of_done _ _ _ c.loop-i-test.false ∙ c.loop-i.invariant
