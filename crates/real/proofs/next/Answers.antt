-- `real::next` meets its contract.
use Rattle.real.specs.Real.{next}
use borrow.Author.Tests.{le-ltb, lt-ltb}
use Rattle.real.proofs.next.Goals as goal

pub returns-then-f-lt18 : goal.returns-then-f-lt18
unfolding next
returns-then-f-lt18 c = simp (lt-ltb _ _ c.if-f-lt18.true)

pub returns : goal.returns
unfolding next
returns c = simp (le-ltb _ _ c.if-f-lt18.false)
