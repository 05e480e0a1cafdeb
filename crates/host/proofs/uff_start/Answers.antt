-- `host::uff_start` meets its contract.
use mathlib.Core.Path.{refl, ◌∙◌}
use Rattle.host.proofs.uff_start.Goals as goal

pub returns : goal.returns
returns c = (c.pack.ensures ∙ rw c.start-found.ensures.0 refl, c.start-found.ensures.1, c.start-found.ensures.2)
