-- `format_reader::read_columns` meets its contract.
use mathlib.Core.Path.{sym, ◌∙◌}
use Rattle.format_reader.specs.Question.{field_in}
use Rattle.format_reader.specs.QuestionLaws.{first_refused, first_passed}
use Rattle.format_reader.proofs.read_columns.Goals as goal

pub returns-in-Err : goal.returns-in-Err
unfolding field_in
returns-in-Err c = first_refused _ _ (sym c.in-Err.is ∙ c.check_line.ensures) c.reply_at.ensures

pub returns : goal.returns
unfolding field_in
returns c = c.show_field.ensures ∙ first_passed _ _ (sym c.in_default.is ∙ c.check_line.ensures)
