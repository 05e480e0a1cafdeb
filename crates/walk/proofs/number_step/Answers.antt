-- `walk::number_step` meets its contract.
use mathlib.Core.Path.{refl, sym, ◌∙◌}
use borrow.Author.Tests.{lt-ltb}
use Rattle.laws.specs.ChoiceLaws.{above_zero_none, above_zero_some}
use Rattle.walk.specs.Step.{number_step}
use Rattle.walk.proofs.number_step.Goals as goal

pub returns-in-Some : goal.returns-in-Some
unfolding number_step
returns-in-Some c =
    let found = above_zero_some _ _ (sym c.in-Some.is ∙ c.dataset_number.ensures) in
    c.goes_on.ensures ∙ rw (c.opened.ensures, ← found.0, lt-ltb _ _ found.1) refl

pub returns-in-None : goal.returns-in-None
unfolding number_step
returns-in-None c = c.refused.ensures ∙ rw (above_zero_none _ (sym c.in-None.is ∙ c.dataset_number.ensures)) refl
