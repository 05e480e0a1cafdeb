-- `host::uff_rewrite` meets its contract.
use mathlib.Core.Path.{refl, ◌∙◌}
use Rattle.host.proofs.uff_rewrite.Goals as goal

pub returns : goal.returns
returns c = (c.pack.ensures ∙ rw c.rewrite-found.ensures.0 refl, c.rewrite-found.ensures.1)
