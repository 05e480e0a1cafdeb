-- `format_reader::show_field` meets its contract.
use lib.ListN.{length}
use Rattle.format_reader.specs.QuestionLaws.{Finding}
use Rattle.format_reader.proofs.show_field.Given as goal

abbrev pub invariant-loop-form : goal.invariant-loop-form
invariant-loop-form l = Finding l.line l.forms l.widths l.field l.at (length l.yielded) l.left
