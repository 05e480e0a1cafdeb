-- `real::after_coefficient` meets its contract.
use borrow.Author.Tests.{le-leb, lt-leb}
use Rattle.real.proofs.after_coefficient.Goals as goal

pub returns-then-s-ge1 : goal.returns-then-s-ge1
returns-then-s-ge1 c = simp (le-leb _ _ c.if-s-ge1.true)

pub returns : goal.returns
returns c = simp (c.malformed.ensures, lt-leb _ _ c.if-s-ge1.false)
