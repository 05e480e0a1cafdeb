-- `walk::after_list` meets its contract.
use mathlib.Core.Path.{◌∙◌}
use Rattle.walk.specs.DueLaws.{after_list_left}
use Rattle.walk.proofs.after_list.Goals as goal

pub returns : goal.returns
returns c = c.settled.ensures ∙ after_list_left _ _ _ c.list_fields.ensures c.saturating_sub.ensures
