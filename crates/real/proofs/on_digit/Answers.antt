-- `real::on_digit` meets its contract.
use Rattle.real.specs.Real.{on_digit}
use borrow.Author.Tests.{le-ltb, lt-ltb, eq-eqb, ne_eqb}
use Rattle.real.proofs.on_digit.Goals as goal

pub returns-then-s-lt3 : goal.returns-then-s-lt3
unfolding on_digit
returns-then-s-lt3 c = simp (c.on_coefficient.ensures, lt-ltb _ _ c.if-s-lt3.true)

pub returns-then-s-eq3 : goal.returns-then-s-eq3
unfolding on_digit
returns-then-s-eq3 c = simp (c.on_coefficient-then-s-eq3.ensures, c.next.ensures, eq-eqb _ _ c.if-s-eq3.true, le-ltb _ _ c.if-s-lt3.false)

pub returns : goal.returns
unfolding on_digit
returns c = simp (c.on_exponent.ensures, ne_eqb _ _ c.if-s-eq3.false, le-ltb _ _ c.if-s-lt3.false)
