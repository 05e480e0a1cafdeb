-- `scan_step`: each way through the code is one way through `step_integer`.
use mathlib.Core.Path.{sym, ◌∙◌}
use native.Mathlib.Omega.{arith}
use borrow.Author.Tests.{le-ltb, lt-ltb, eq-eqb, ne_eqb}
use Rattle.integer.specs.Integer.{step_integer}
use Rattle.text.specs.PartsLaws.{is_digit_low}
use Rattle.integer.proofs.scan_step.Goals as goal

pub overflow_sub-b : goal.overflow_sub-b
overflow_sub-b c = omega (arith, is_digit_low _ (sym c.is_digit.ensures ∙ c.if-is_digit.true))

pub returns-then-s-lt3 : goal.returns-then-s-lt3
unfolding step_integer
returns-then-s-lt3 c =
    simp (
      c.pushed.ensures,
      lt-ltb _ _ c.if-s-lt3.true,
      sym c.is_digit.ensures ∙ c.if-is_digit.true,
    )

pub returns-then-is_digit : goal.returns-then-is_digit
unfolding step_integer
returns-then-is_digit c = simp (le-ltb _ _ c.if-s-lt3.false, sym c.is_digit.ensures ∙ c.if-is_digit.true)

pub returns-then-s-ne0 : goal.returns-then-s-ne0
unfolding step_integer
returns-then-s-ne0 c = simp (ne_eqb _ _ c.if-s-ne0.true, sym c.is_digit.ensures ∙ c.if-is_digit.false)

pub returns-then-b-eq32 : goal.returns-then-b-eq32
unfolding step_integer
returns-then-b-eq32 c =
    simp (
      eq-eqb _ _ c.if-b-eq32.true,
      eq-eqb _ _ c.if-s-ne0.false,
      sym c.is_digit.ensures ∙ c.if-is_digit.false,
    )

pub returns-then-b-eq43 : goal.returns-then-b-eq43
unfolding step_integer
returns-then-b-eq43 c =
    simp (
      eq-eqb _ _ c.if-b-eq43.true,
      ne_eqb _ _ c.if-b-eq32.false,
      eq-eqb _ _ c.if-s-ne0.false,
      sym c.is_digit.ensures ∙ c.if-is_digit.false,
    )

pub returns-then-b-eq45 : goal.returns-then-b-eq45
unfolding step_integer
returns-then-b-eq45 c =
    simp (
      eq-eqb _ _ c.if-b-eq45.true,
      ne_eqb _ _ c.if-b-eq43.false,
      ne_eqb _ _ c.if-b-eq32.false,
      eq-eqb _ _ c.if-s-ne0.false,
      sym c.is_digit.ensures ∙ c.if-is_digit.false,
    )

pub returns : goal.returns
unfolding step_integer
returns c =
    simp (
      ne_eqb _ _ c.if-b-eq45.false,
      ne_eqb _ _ c.if-b-eq43.false,
      ne_eqb _ _ c.if-b-eq32.false,
      eq-eqb _ _ c.if-s-ne0.false,
      sym c.is_digit.ensures ∙ c.if-is_digit.false,
    )
