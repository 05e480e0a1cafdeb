-- `real::scan_step` meets its contract.
use Rattle.real.specs.Real.{scan_step}
use borrow.Author.Tests.{eq-eqb, ne_eqb}
use mathlib.Core.Path.{sym, ◌∙◌}
use native.Mathlib.Omega.{arith}
use Rattle.text.specs.PartsLaws.{is_digit_low}
use Rattle.real.proofs.scan_step.Goals as goal

pub overflow_sub-b : goal.overflow_sub-b
overflow_sub-b c = omega (arith, is_digit_low _ (sym c.is_digit.ensures ∙ c.if-is_digit.true))

pub returns-then-is_digit : goal.returns-then-is_digit
unfolding scan_step
returns-then-is_digit c = simp (c.on_digit.ensures, sym c.is_digit.ensures ∙ c.if-is_digit.true)

pub returns-then-b-eq43 : goal.returns-then-b-eq43
unfolding scan_step
returns-then-b-eq43 c = simp (c.on_sign.ensures, eq-eqb _ _ c.if-b-eq43.true, sym c.is_digit.ensures ∙ c.if-is_digit.false)

pub returns-then-b-eq45 : goal.returns-then-b-eq45
unfolding scan_step
returns-then-b-eq45 c = simp (c.on_sign-then-b-eq45.ensures, eq-eqb _ _ c.if-b-eq45.true, ne_eqb _ _ c.if-b-eq43.false, sym c.is_digit.ensures ∙ c.if-is_digit.false)

pub returns-then-b-eq46 : goal.returns-then-b-eq46
unfolding scan_step
returns-then-b-eq46 c =
    let no_digit = sym c.is_digit.ensures ∙ c.if-is_digit.false in
    let no_plus = ne_eqb _ _ c.if-b-eq43.false in
    let no_minus = ne_eqb _ _ c.if-b-eq45.false in
    simp (c.on_point.ensures, eq-eqb _ _ c.if-b-eq46.true, no_minus, no_plus, no_digit)

pub returns-then-is_letter : goal.returns-then-is_letter
unfolding scan_step
returns-then-is_letter c =
    let no_digit = sym c.is_digit.ensures ∙ c.if-is_digit.false in
    let no_plus = ne_eqb _ _ c.if-b-eq43.false in
    let no_minus = ne_eqb _ _ c.if-b-eq45.false in
    let no-point = ne_eqb _ _ c.if-b-eq46.false in
    let letter = sym c.is_letter.ensures ∙ c.if-is_letter.true in
    simp (c.on_letter.ensures, letter, no-point, no_minus, no_plus, no_digit)

pub returns-then-b-eq32 : goal.returns-then-b-eq32
unfolding scan_step
returns-then-b-eq32 c =
    let no_digit = sym c.is_digit.ensures ∙ c.if-is_digit.false in
    let no_plus = ne_eqb _ _ c.if-b-eq43.false in
    let no_minus = ne_eqb _ _ c.if-b-eq45.false in
    let no-point = ne_eqb _ _ c.if-b-eq46.false in
    let no_letter = sym c.is_letter.ensures ∙ c.if-is_letter.false in
    simp (c.on_blank.ensures, eq-eqb _ _ c.if-b-eq32.true, no_letter, no-point, no_minus, no_plus, no_digit)

pub returns : goal.returns
unfolding scan_step
returns c =
    let no_digit = sym c.is_digit.ensures ∙ c.if-is_digit.false in
    let no_plus = ne_eqb _ _ c.if-b-eq43.false in
    let no_minus = ne_eqb _ _ c.if-b-eq45.false in
    let no-point = ne_eqb _ _ c.if-b-eq46.false in
    let no_letter = sym c.is_letter.ensures ∙ c.if-is_letter.false in
    simp (c.malformed.ensures, ne_eqb _ _ c.if-b-eq32.false, no_letter, no-point, no_minus, no_plus, no_digit)
