-- `real::on_point` meets its contract.
use Rattle.real.specs.Real.{on_point}
use borrow.Author.Tests.{le-ltb, lt-ltb}
use Rattle.real.proofs.on_point.Goals as goal

pub returns-then-s-lt3 : goal.returns-then-s-lt3
unfolding on_point
returns-then-s-lt3 c = simp (lt-ltb _ _ c.if-s-lt3.true)

pub returns : goal.returns
unfolding on_point
returns c = simp (c.malformed.ensures, le-ltb _ _ c.if-s-lt3.false)
