-- `real::is_letter` meets its contract.
use mathlib.Core.Path.{refl}
use Rattle.real.specs.Real.{is_letter}
use Rattle.real.proofs.is_letter.Goals as goal

pub returns : goal.returns
unfolding is_letter
returns c = refl
