-- `stream::close` meets its contract.
use mathlib.Core.Path.{refl}
use Rattle.stream.specs.Stream.{closed}
use Rattle.stream.proofs.close.Goals as goal

pub returns : goal.returns
unfolding closed
returns c = refl
