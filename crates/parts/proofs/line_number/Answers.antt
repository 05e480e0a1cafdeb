-- `parts::line_number` meets its contract.
use mathlib.Core.Path.{sym, ap, ◌∙◌}
use Rattle.laws.specs.ChoiceLaws.{above_zero_or}
use Rattle.delimiter.specs.Kind.{positive, dataset_number}
use Rattle.parts.specs.ShownLaws.{number_shown_lem}
use Rattle.parts.proofs.line_number.Goals as goal

pub returns-then-n-eq6 : goal.returns-then-n-eq6
returns-then-n-eq6 c =
    c.unwrap_or.ensures ∙ rw c.positive.ensures (above_zero_or _) ∙ ap positive c.integer_field.ensures
    ∙ sym (number_shown_lem _ _ c.shown_len-n.ensures.0 c.if-n-eq6.true)

pub returns : goal.returns
returns c = c.unwrap_or-2.ensures ∙ rw c.dataset_number.ensures (above_zero_or _) ∙ ap dataset_number c.put_columns.ensures
