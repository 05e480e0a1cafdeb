-- `format_reader::show_real` meets its contract.
use mathlib.Core.Path.{sym, ap, ◌∙◌}
use Rattle.reader.specs.Reader.{refused_by}
use Rattle.format_reader.specs.Question.{real_shown, field_shown}
use Rattle.format_reader.proofs.show_real.Goals as goal

pub returns-in-Ok : goal.returns-in-Ok
unfolding field_shown
returns-in-Ok c = ap (real_shown _ _) (sym c.in-Ok.is ∙ c.real_field.ensures)

pub returns-in-Err : goal.returns-in-Err
unfolding field_shown
returns-in-Err c = ap refused_by c.no_field.ensures ∙ ap (real_shown _ _) (sym c.in-Err.is ∙ c.real_field.ensures)
