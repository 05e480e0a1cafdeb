-- `real::finish` meets its contract.
use Rattle.real.specs.EndLaws.{real_end_minus, real_end_less, real_end_rest}
use Rattle.real.specs.Real.{real_end}
use borrow.Author.Tests.{le-ltb, lt-ltb, eq-eqb, ne_eqb}
use mathlib.Core.Path.{sym, ◌∙◌}
use Rattle.real.proofs.finish.Goals as goal

pub returns-then-s-eq0 : goal.returns-then-s-eq0
unfolding real_end
returns-then-s-eq0 c = simp (eq-eqb _ _ c.if-s-eq0.true)

pub returns-then-s-lt7 : goal.returns-then-s-lt7
unfolding real_end
returns-then-s-lt7 c = simp (lt-ltb _ _ c.if-s-lt7.true, ne_eqb _ _ c.if-s-eq0.false)

pub returns-then-s-gt8 : goal.returns-then-s-gt8
unfolding real_end
returns-then-s-gt8 c = simp (lt-ltb _ _ c.if-s-gt8.true, le-ltb _ _ c.if-s-lt7.false, ne_eqb _ _ c.if-s-eq0.false)

pub returns-then-s-gt999 : goal.returns-then-s-gt999
unfolding real_end
returns-then-s-gt999 c = simp (lt-ltb _ _ c.if-s-gt999.true, le-ltb _ _ c.if-s-gt8.false, le-ltb _ _ c.if-s-lt7.false, ne_eqb _ _ c.if-s-eq0.false)

pub returns-then-s : goal.returns-then-s
returns-then-s c = rw c.from-f.ensures at c.scaled.ensures ∙ sym (real_end_minus _ c.if-s-lt7.false c.if-s-gt8.false c.if-s-gt999.false c.if-s.true)

pub returns-then-x-f : goal.returns-then-x-f
returns-then-x-f c = rw c.from-f.ensures at c.scaled-then-x-f.ensures ∙ sym (real_end_less _ c.if-s-lt7.false c.if-s-gt8.false c.if-s-gt999.false c.if-s.false (rw c.from-f.ensures at c.if-x-f.true))

pub returns : goal.returns
returns c = rw c.from-f.ensures at c.scaled-2.ensures ∙ sym (real_end_rest _ c.if-s-lt7.false c.if-s-gt8.false c.if-s-gt999.false c.if-s.false (rw c.from-f.ensures at c.if-x-f.false))
