-- `text::is_digit` meets its contract.
use Rattle.text.specs.Parts.{is_digit}
use mathlib.Core.Path.{refl}
use Rattle.text.proofs.is_digit.Goals as goal

pub returns : goal.returns
unfolding is_digit
returns c = refl
