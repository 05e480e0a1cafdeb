-- `walk::is_typed` meets its contract.
use mathlib.Core.Path.{refl}
use Rattle.record_table.specs.TypedSets.{is_typed}
use Rattle.walk.proofs.is_typed.Goals as goal

pub returns : goal.returns
unfolding is_typed
returns c = rw c.kind_of.ensures refl
