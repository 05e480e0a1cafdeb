-- `line::line_fault` meets its contract.
use Rattle.std.proofs.Common.{sym, ◌∙◌}
use borrow.Author.Tests.{lt-ltb, le-ltb}
use Rattle.line.specs.Line.{line_fault, verdict}
use Rattle.laws.specs.ChoiceLaws.{above_zero_none, above_zero_some}
use Rattle.line.proofs.line_fault.Goals as goal

pub returns-in-Some : goal.returns-in-Some
unfolding line_fault verdict
returns-in-Some c =
    let bad = above_zero_some _ _ (sym c.in-Some.is ∙ c.first_bad.ensures) in
    rw (← bad.0) (simp (lt-ltb _ _ bad.1))

pub returns-then-s-gt80 : goal.returns-then-s-gt80
unfolding line_fault verdict
returns-then-s-gt80 c = rw (above_zero_none _ (sym c.in_default.is ∙ c.first_bad.ensures)) (simp (lt-ltb _ _ c.if-s-gt80.true))

pub returns-then-ended : goal.returns-then-ended
unfolding line_fault verdict
returns-then-ended c = rw (above_zero_none _ (sym c.in_default.is ∙ c.first_bad.ensures)) (simp (le-ltb _ _ c.if-s-gt80.false, c.if-ended.true))

pub returns : goal.returns
unfolding line_fault verdict
returns c = rw (above_zero_none _ (sym c.in_default.is ∙ c.first_bad.ensures)) (simp (le-ltb _ _ c.if-s-gt80.false, c.if-ended.false))
