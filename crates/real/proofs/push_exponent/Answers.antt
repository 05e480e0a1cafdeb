-- `real::push_exponent` meets its contract.
use Rattle.real.specs.Real.{push}
use borrow.Author.Tests.{le-ltb, lt-ltb}
use Rattle.real.proofs.push_exponent.Goals as goal

pub returns-then-x-lt1000 : goal.returns-then-x-lt1000
unfolding push
returns-then-x-lt1000 c = simp (c.from.ensures, lt-ltb _ _ c.if-x-lt1000.true)

pub returns : goal.returns
unfolding push
returns c = simp (le-ltb _ _ c.if-x-lt1000.false)
