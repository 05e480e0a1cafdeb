-- `real::on_blank` meets its contract.
use Rattle.real.specs.Real.{on_blank}
use borrow.Author.Tests.{le-ltb, lt-ltb}
use Rattle.real.proofs.on_blank.Goals as goal

pub returns-then-s-gt0 : goal.returns-then-s-gt0
unfolding on_blank
returns-then-s-gt0 c = simp (c.malformed.ensures, lt-ltb _ _ c.if-s-gt0.true)

pub returns : goal.returns
unfolding on_blank
returns c = simp (le-ltb _ _ c.if-s-gt0.false)
