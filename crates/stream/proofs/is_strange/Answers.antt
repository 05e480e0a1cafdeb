-- `stream::is_strange` meets its contract.
use mathlib.Core.Path.{refl}
use Rattle.stream.specs.Stream.{is_strange}
use Rattle.stream.proofs.is_strange.Goals as goal

pub returns : goal.returns
unfolding is_strange
returns c = refl
