-- `walk::settled` meets its contract.
use borrow.Author.Tests.{eq-eqb, ne_eqb}
use Rattle.walk.specs.Due.{settled}
use Rattle.walk.proofs.settled.Goals as goal

pub returns-then-d-eq0 : goal.returns-then-d-eq0
unfolding settled
returns-then-d-eq0 c = simp (eq-eqb _ _ c.if-d-eq0.true)

pub returns : goal.returns
unfolding settled
returns c = simp (ne_eqb _ _ c.if-d-eq0.false)
