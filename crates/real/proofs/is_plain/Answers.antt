-- `real::is_plain` meets its contract.
use mathlib.Core.Path.{refl}
use Rattle.real.specs.Plain.{is_plain}
use Rattle.real.proofs.is_plain.Goals as goal

pub returns : goal.returns
unfolding is_plain
returns c = refl
