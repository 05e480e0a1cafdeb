-- `walk::plain_step` meets its contract.
use mathlib.Core.Path.{sym, ◌∙◌}
use Rattle.walk.specs.Step.{plain_step}
use Rattle.walk.proofs.plain_step.Goals as goal

pub returns-then-is_delimiter : goal.returns-then-is_delimiter
unfolding plain_step
returns-then-is_delimiter c = c.goes_on.ensures ∙ simp (sym c.is_delimiter.ensures ∙ c.if-is_delimiter.true)

pub returns : goal.returns
unfolding plain_step
returns c = c.goes_on-2.ensures ∙ simp (sym c.is_delimiter.ensures ∙ c.if-is_delimiter.false)
