-- `codes::takes_minus` meets its contract.
use mathlib.Core.Path.{refl, sym, ap, ◌∙◌}
use mathlib.Core.Bool.{Bool, true, false, not}
use Prim.Native.Nat.{ℕ}
use native.Mathlib.Omega.{arith}
use Rattle.laws.specs.RangesLaws.{in_range}
use Rattle.codes.specs.Rule.{takes_minus}
use Rattle.codes.specs.Form.{forms, form_of, rule_of}
use Rattle.codes.specs.FormLaws.{form_of_past}
use Rattle.codes.proofs.takes_minus.Goals.{in-5-to-7, in-5-to-7-2, in-5-to-7-3, in-5-to-7-4, in_default, in_default-2, in_default-3, in_default-4, in_default-5}
use Rattle.codes.proofs.takes_minus.Goals as goal

abbrev minus : ℕ → Bool
minus k = takes_minus (rule_of (form_of k))

pub returns : goal.returns
unfolding takes_minus form_of forms
returns c =
    let k : ℕ = c.args.form in
    elim c.if-matches.branch [
      | in-5-to-7 w ↦ ap not w.matches-is ∙ sym (in_range minus false 5 3 k refl (omega arith) (omega arith))
      | in-5-to-7-2 w ↦ ap not w.matches-is ∙ sym (in_range minus false 9 5 k refl (omega arith) (omega arith))
      | in-5-to-7-3 w ↦ ap not w.matches-is ∙ sym (in_range minus false 15 6 k refl (omega arith) (omega arith))
      | in-5-to-7-4 w ↦ ap not w.matches-is ∙ sym (in_range minus false 22 9 k refl (omega arith) (omega arith))
      | in_default w ↦ ap not w.matches-is ∙ sym (in_range minus true 0 5 k refl (omega arith) (omega arith))
      | in_default-2 w ↦ ap not w.matches-is ∙ sym (in_range minus true 8 1 k refl (omega arith) (omega arith))
      | in_default-3 w ↦ ap not w.matches-is ∙ sym (in_range minus true 14 1 k refl (omega arith) (omega arith))
      | in_default-4 w ↦ ap not w.matches-is ∙ sym (in_range minus true 21 1 k refl (omega arith) (omega arith))
      | in_default-5 w ↦ ap not w.matches-is ∙ sym (rw (form_of_past k (omega arith)) refl)
    ]
