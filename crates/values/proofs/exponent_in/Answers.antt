-- `values::exponent_in` meets its contract.
use mathlib.Core.Path.{refl, sym, ◌∙◌}
use Rattle.values.specs.Scale.{exponent_in}
use Rattle.values.proofs.exponent_in.Goals as goal

pub returns-then-is_letter : goal.returns-then-is_letter
unfolding exponent_in
returns-then-is_letter c = rw (sym c.is_letter.ensures ∙ c.if-is_letter.true) refl

pub returns : goal.returns
unfolding exponent_in
returns c = rw (sym c.is_letter.ensures ∙ c.if-is_letter.false) refl
