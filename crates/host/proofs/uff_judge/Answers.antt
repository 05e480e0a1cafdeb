-- `host::uff_judge` meets its contract.
use mathlib.Core.Path.{refl, ◌∙◌}
use Rattle.host.proofs.uff_judge.Goals as goal

pub returns : goal.returns
returns c = c.pack.ensures ∙ rw c.judge-found.ensures refl
