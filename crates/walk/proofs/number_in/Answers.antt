-- `walk::number_in` meets its contract.
use mathlib.Core.Path.{refl, sym, ◌∙◌}
use Rattle.laws.specs.ChoiceLaws.{above_zero_or}
use Rattle.record.specs.Declares.{number_in}
use Rattle.walk.specs.DueLaws.{natural_positive}
use Rattle.walk.proofs.number_in.Goals as goal

pub returns : goal.returns
unfolding number_in
returns c =
    c.unwrap_or.ensures ∙ rw c.positive.ensures (above_zero_or _)
    ∙ sym (natural_positive c.integer_field.result) ∙ rw c.integer_field.ensures refl
