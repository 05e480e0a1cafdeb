-- `real::push_coefficient` meets its contract.
use Rattle.real.specs.Real.{push}
use borrow.Author.Tests.{le-ltb, lt-ltb}
use Rattle.real.proofs.push_coefficient.Goals as goal

pub returns-then-m-lt-NO_COEFFICIENT : goal.returns-then-m-lt-NO_COEFFICIENT
unfolding push
returns-then-m-lt-NO_COEFFICIENT c = simp (c.from.ensures, lt-ltb _ _ c.if-m-lt-NO_COEFFICIENT.true)

pub returns : goal.returns
unfolding push
returns c = simp (le-ltb _ _ c.if-m-lt-NO_COEFFICIENT.false)
