-- `host::uff_list` meets its contract.
use mathlib.Core.Path.{refl, ◌∙◌}
use Rattle.host.proofs.uff_list.Goals as goal

pub returns : goal.returns
returns c = (c.pack.ensures ∙ rw c.list-found.ensures.0 refl, c.list-found.ensures.1)
