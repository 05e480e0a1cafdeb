-- `line::is_allowed` meets its contract.
use mathlib.Core.Path.{refl}
use Rattle.line.specs.Line.{is_allowed}
use Rattle.line.proofs.is_allowed.Goals as goal

pub returns : goal.returns
unfolding is_allowed
returns c = refl
