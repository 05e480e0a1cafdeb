-- `usual_values::place_of` meets its contract.
use Rattle.usual_values.specs.Number.{place_of}
use Rattle.usual_values.proofs.place_of.Goals as goal

pub returns-then-down : goal.returns-then-down
unfolding place_of
returns-then-down c = simp c.if-down.true

pub returns : goal.returns
unfolding place_of
returns c = simp c.if-down.false
