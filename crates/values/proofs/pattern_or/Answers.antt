-- `values::pattern_or` meets its contract.
use mathlib.Core.Path.{refl, ◌∙◌}
use Rattle.values.proofs.pattern_or.Goals as goal

pub returns-in-Ok : goal.returns-in-Ok
returns-in-Ok c = c.bits.ensures ∙ rw c.in-Ok.is refl
