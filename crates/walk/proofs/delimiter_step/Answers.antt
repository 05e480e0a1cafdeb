-- `walk::delimiter_step` meets its contract.
use mathlib.Core.Path.{sym, ◌∙◌}
use Rattle.walk.specs.Step.{step_of}
use Rattle.walk.specs.StepLaws.{opens, opens_none, no_number, closes_plain, closes, closes_early}
use Rattle.walk.proofs.delimiter_step.Goals as goal

pub returns-then-sets-lt-MOST_SETS : goal.returns-then-sets-lt-MOST_SETS
unfolding step_of
returns-then-sets-lt-MOST_SETS c line d = c.goes_on.ensures ∙ rw c.in-Outside.is (sym (opens _ d c.if-sets-lt-MOST_SETS.true))

pub returns-then-may_close : goal.returns-then-may_close
unfolding step_of
returns-then-may_close c line d = c.goes_on-then-may_close.ensures ∙ rw c.in-Typed.is (sym (closes _ d _ (sym c.may_close.ensures ∙ c.if-may_close.true)))

pub returns-else-sets-lt-MOST_SETS : goal.returns-else-sets-lt-MOST_SETS
unfolding step_of
returns-else-sets-lt-MOST_SETS c line d = c.refused.ensures ∙ rw c.in-Outside.is (sym (opens_none _ d c.if-sets-lt-MOST_SETS.false))

pub returns-in-Number : goal.returns-in-Number
unfolding step_of
returns-in-Number c line d = c.refused-in-Number.ensures ∙ rw c.in-Number.is (sym (no_number _ d))

pub returns-in-Plain : goal.returns-in-Plain
unfolding step_of
returns-in-Plain c line d = c.goes_on-in-Plain.ensures ∙ rw c.in-Plain.is (sym (closes_plain _ d))

pub returns-else-may_close : goal.returns-else-may_close
unfolding step_of
returns-else-may_close c line d = c.refused-in-Typed.ensures ∙ rw c.in-Typed.is (sym (closes_early _ d _ (sym c.may_close.ensures ∙ c.if-may_close.false)))
