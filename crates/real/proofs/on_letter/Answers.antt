-- `real::on_letter` meets its contract.
use Rattle.real.specs.Real.{on_letter}
use borrow.Author.Tests.{eq-eqb, ne_eqb}
use Rattle.real.proofs.on_letter.Goals as goal

pub returns-then-s-eq3 : goal.returns-then-s-eq3
unfolding on_letter
returns-then-s-eq3 c = simp (c.after_coefficient.ensures, eq-eqb _ _ c.if-s-eq3.true)

pub returns : goal.returns
unfolding on_letter
returns c = simp (c.malformed.ensures, ne_eqb _ _ c.if-s-eq3.false)
