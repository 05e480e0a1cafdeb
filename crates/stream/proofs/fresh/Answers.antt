-- `stream::fresh` meets its contract.
use mathlib.Core.Path.{refl}
use Rattle.stream.specs.Stream.{fresh_record}
use Rattle.stream.proofs.fresh.Goals as goal

pub returns : goal.returns
unfolding fresh_record
returns c = refl
