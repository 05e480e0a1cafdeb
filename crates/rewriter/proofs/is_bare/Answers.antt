use mathlib.Core.Path.{◌∙◌}
use mathlib.Core.Logic.{inl, inr}
use Rattle.rewriter.proofs.RunLaws.{bare_next, bare_end}
use Rattle.rewriter.proofs.is_bare.Goals as goal

pub loop-b-preserved : goal.loop-b-preserved
loop-b-preserved c =
    let steps = c.in-Some.ensures.steps in
    bare_next c.loop-b.none _ _ _ _ _ _ steps.0 steps.1 ∙ c.loop-b.invariant

pub returns : goal.returns
returns c =
    elim c.in-None.ensures.steps [
      | inl s ↦ bare_end c.loop-b.none _ _ (inl s.1.0) ∙ c.loop-b.invariant
      | inr s ↦ bare_end c.loop-b.none _ _ (inr s.1.0) ∙ c.loop-b.invariant
    ]
