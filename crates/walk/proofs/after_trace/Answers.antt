-- `walk::after_trace` meets its contract.
use mathlib.Core.Path.{refl}
use Rattle.walk.proofs.after_trace.Goals as goal

pub returns : goal.returns
returns c = rw c.number_in-entries.ensures refl
