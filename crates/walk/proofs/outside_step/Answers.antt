-- `walk::outside_step` meets its contract.
use mathlib.Core.Path.{sym, ◌∙◌}
use borrow.Author.Tests.{lt-ltb, le-ltb}
use Rattle.walk.specs.Step.{outside_step}
use Rattle.walk.proofs.outside_step.Goals as goal

pub returns-then-is_blank_line : goal.returns-then-is_blank_line
unfolding outside_step
returns-then-is_blank_line c = c.goes_on.ensures ∙ simp (sym c.is_blank_line.ensures ∙ c.if-is_blank_line.true)

pub returns-then-sets-lt-MOST_SETS : goal.returns-then-sets-lt-MOST_SETS
unfolding outside_step
returns-then-sets-lt-MOST_SETS c =
    let not_blank = sym c.is_blank_line.ensures ∙ c.if-is_blank_line.false in
    let delimiter = sym c.is_delimiter.ensures ∙ c.if-is_delimiter.true in
    c.goes_on-then-sets-lt-MOST_SETS.ensures ∙ simp (not_blank, delimiter, lt-ltb _ _ c.if-sets-lt-MOST_SETS.true)

pub returns-then-is_delimiter : goal.returns-then-is_delimiter
unfolding outside_step
returns-then-is_delimiter c =
    let not_blank = sym c.is_blank_line.ensures ∙ c.if-is_blank_line.false in
    let delimiter = sym c.is_delimiter.ensures ∙ c.if-is_delimiter.true in
    c.refused.ensures ∙ simp (not_blank, delimiter, le-ltb _ _ c.if-sets-lt-MOST_SETS.false)

pub returns : goal.returns
unfolding outside_step
returns c = c.refused-2.ensures ∙ simp (sym c.is_blank_line.ensures ∙ c.if-is_blank_line.false, sym c.is_delimiter.ensures ∙ c.if-is_delimiter.false)
