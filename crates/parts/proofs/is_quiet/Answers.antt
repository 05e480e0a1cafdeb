use mathlib.Core.Path.{◌∙◌}
use mathlib.Core.Logic.{inl, inr}
use Rattle.parts.specs.MarkLaws.{quiet_next, quiet_end}
use Rattle.parts.proofs.is_quiet.Goals as goal

pub loop-b-preserved : goal.loop-b-preserved
loop-b-preserved c =
    let steps = c.in-Some.ensures.steps in
    quiet_next c.loop-b.none _ _ _ _ _ _ steps.0 steps.1 ∙ c.loop-b.invariant

pub returns : goal.returns
returns c =
    elim c.in-None.ensures.steps [
      | inl s ↦ quiet_end c.loop-b.none _ _ (inl s.1.0) ∙ c.loop-b.invariant
      | inr s ↦ quiet_end c.loop-b.none _ _ (inr s.1.0) ∙ c.loop-b.invariant
    ]
