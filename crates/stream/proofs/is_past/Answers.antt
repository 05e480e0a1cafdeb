-- `stream::is_past` meets its contract.
use mathlib.Core.Path.{refl}
use Rattle.stream.specs.Stream.{is_past}
use Rattle.stream.proofs.is_past.Goals as goal

pub returns : goal.returns
unfolding is_past
returns c = rw c.is_strange.ensures refl
