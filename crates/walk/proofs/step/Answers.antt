-- `walk::step` meets its contract.
use mathlib.Core.Path.{refl, ◌∙◌}
use Rattle.walk.specs.Step.{step_of}
use Rattle.walk.proofs.step.Goals as goal

pub returns-in-Outside : goal.returns-in-Outside
unfolding step_of
returns-in-Outside c = c.outside_step.ensures ∙ rw c.in-Outside.is refl

pub returns-in-Number : goal.returns-in-Number
unfolding step_of
returns-in-Number c = c.number_step.ensures ∙ rw c.in-Number.is refl

pub returns-in-Plain : goal.returns-in-Plain
unfolding step_of
returns-in-Plain c = c.plain_step.ensures ∙ rw c.in-Plain.is refl

pub returns-in-Typed : goal.returns-in-Typed
unfolding step_of
returns-in-Typed c = c.typed_step.ensures ∙ rw c.in-Typed.is refl
