-- `real::on_coefficient` meets its contract.
use Rattle.real.specs.Real.{on_coefficient}
use borrow.Author.Tests.{le-ltb, lt-ltb}
use Rattle.real.proofs.on_coefficient.Goals as goal

pub returns-then-s-lt18 : goal.returns-then-s-lt18
unfolding on_coefficient
returns-then-s-lt18 c = simp (c.push_coefficient-c.ensures, lt-ltb _ _ c.if-s-lt18.true)

pub returns : goal.returns
unfolding on_coefficient
returns c = simp (c.malformed.ensures, le-ltb _ _ c.if-s-lt18.false)
