-- `format_reader::ask` meets its contract.
use mathlib.Core.Path.{◌∙◌}
use Rattle.format_reader.specs.TextLaws.{is_read, text_refused, read_lengths, read_fits, read_answer}
use Rattle.format_reader.proofs.ask.Goals as goal

pub returns-in-Err : goal.returns-in-Err
returns-in-Err c = text_refused _ _ _ c.in-Err.ensures (rw c.number.ensures at c.bare_reply.ensures)

pub read_line-requires : goal.read_line-requires
read_line-requires c =
    let read = is_read c.in-Ok.ensures in
    (read_lengths read c.forms_of-forms.ensures, read_fits read c.forms_of-forms.ensures)

pub returns : goal.returns
returns c =
    let known = is_read c.in-Ok.ensures in
    c.read_line.ensures ∙ read_answer known c.forms_of-forms.ensures _ _
