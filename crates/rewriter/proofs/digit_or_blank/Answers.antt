-- `rewriter::digit_or_blank` meets its contract.
use borrow.Author.Tests.{eq-eqb, ne_eqb}
use Rattle.rewriter.specs.Rewriter.{digit_or_blank}
use Rattle.rewriter.proofs.digit_or_blank.Goals as goal

pub returns-then-v-eq0 : goal.returns-then-v-eq0
unfolding digit_or_blank
returns-then-v-eq0 c = simp (eq-eqb _ _ c.if-v-eq0.true)

pub returns : goal.returns
unfolding digit_or_blank
returns c = simp (ne_eqb _ _ c.if-v-eq0.false)
