-- `host::uff_write` meets its contract.
use mathlib.Core.Path.{refl, ◌∙◌}
use Rattle.host.proofs.uff_write.Goals as goal

pub returns : goal.returns
returns c = (c.pack.ensures ∙ rw c.write-found.ensures.0 refl, c.write-found.ensures.1)
