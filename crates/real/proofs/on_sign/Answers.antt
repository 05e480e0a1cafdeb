-- `real::on_sign` meets its contract.
use Rattle.real.specs.Real.{on_sign}
use borrow.Author.Tests.{eq-eqb, ne_eqb}
use Rattle.real.proofs.on_sign.Goals as goal

pub returns-then-s-eq0 : goal.returns-then-s-eq0
unfolding on_sign
returns-then-s-eq0 c = simp (eq-eqb _ _ c.if-s-eq0.true)

pub returns-then-s-eq3 : goal.returns-then-s-eq3
unfolding on_sign
returns-then-s-eq3 c = simp (c.after_coefficient.ensures, eq-eqb _ _ c.if-s-eq3.true, ne_eqb _ _ c.if-s-eq0.false)

pub returns-then-s-eq4 : goal.returns-then-s-eq4
unfolding on_sign
returns-then-s-eq4 c = simp (eq-eqb _ _ c.if-s-eq4.true, ne_eqb _ _ c.if-s-eq3.false, ne_eqb _ _ c.if-s-eq0.false)

pub returns : goal.returns
unfolding on_sign
returns c = simp (c.malformed.ensures, ne_eqb _ _ c.if-s-eq4.false, ne_eqb _ _ c.if-s-eq3.false, ne_eqb _ _ c.if-s-eq0.false)
