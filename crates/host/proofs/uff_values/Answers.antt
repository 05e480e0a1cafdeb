-- `host::uff_values` meets its contract.
use mathlib.Core.Path.{refl, ◌∙◌}
use Rattle.host.proofs.uff_values.Goals as goal

pub returns : goal.returns
returns c = (c.pack.ensures ∙ rw c.values-found.ensures.0 refl, c.values-found.ensures.1)
