-- `codes::is_within` meets its contract.
use mathlib.Core.Path.{refl}
use Rattle.codes.specs.Rule.{keeps}
use Rattle.codes.proofs.is_within.Goals as goal

pub returns : goal.returns
unfolding keeps
returns c = refl
