-- `host::uff_end` meets its contract.
use mathlib.Core.Path.{refl, ◌∙◌}
use Rattle.host.proofs.uff_end.Goals as goal

pub returns : goal.returns
returns c = (c.pack.ensures ∙ rw c.end-found.ensures.0 refl, c.end-found.ensures.1)
