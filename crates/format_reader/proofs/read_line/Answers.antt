-- `format_reader::read_line` meets its contract.
use mathlib.Core.Path.{sym, ◌∙◌}
use Rattle.format_reader.specs.Question.{field_of}
use Rattle.format_reader.specs.QuestionLaws.{first_refused, first_passed}
use Rattle.format_reader.proofs.read_line.Goals as goal

pub returns-in-Err : goal.returns-in-Err
unfolding field_of
returns-in-Err c = first_refused _ _ (sym c.in-Err.is ∙ c.line_fault.ensures) c.reply_at.ensures

pub returns : goal.returns
unfolding field_of
returns c = c.read_columns.ensures ∙ rw c.fill_line.ensures (first_passed _ _ (sym c.in_default.is ∙ c.line_fault.ensures))
