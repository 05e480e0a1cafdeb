-- `walk::after_orders` meets its contract.
use mathlib.Core.Path.{refl, ◌∙◌}
use Rattle.walk.proofs.after_orders.Goals as goal

pub returns : goal.returns
returns c = c.settled.ensures ∙ rw (c.number_in-second.ensures, c.number_in-first.ensures) refl
