-- `values::most_size` meets its contract.
use mathlib.Core.Path.{refl}
use Rattle.values.specs.Scale.{most_size}
use Rattle.values.proofs.most_size.Goals as goal

pub returns-then-down : goal.returns-then-down
unfolding most_size
returns-then-down c = rw c.if-down.true refl

pub returns : goal.returns
unfolding most_size
returns c = rw c.if-down.false refl
