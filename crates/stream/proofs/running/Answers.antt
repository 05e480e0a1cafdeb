-- `stream::running` meets its contract.
use mathlib.Core.Path.{refl, sym, ◌∙◌}
use Rattle.stream.specs.StreamLaws.{past_not}
use mathlib.Core.Logic.{inl, inr}
use native.Mathlib.Omega.{arith}
use Rattle.stream.proofs.running.Goals as goal

pub returns-then-is_past : goal.returns-then-is_past
returns-then-is_past c = record { within = λ h. absurd (omega arith); beyond = λ h. inl (sym c.is_past.ensures ∙ c.if-is_past.true); stops = λ h. refl }

pub overflow_sub-c : goal.overflow_sub-c
overflow_sub-c c = omega (arith, past_not _ (sym c.is_past.ensures ∙ c.if-is_past.false))

pub returns-then-c-more : goal.returns-then-c-more
returns-then-c-more c = record { within = λ h. absurd (omega arith); beyond = λ h. inr (omega (arith, c.if-c-more.true)); stops = λ h. refl }

pub returns : goal.returns
returns c =
    let inside = sym c.is_past.ensures ∙ c.if-is_past.false in
    record { within = λ h. (inside, refl); beyond = λ h. inr h; stops = λ h. absurd (omega (arith, h, c.if-c-more.false, (past_not _ inside).0)) }
