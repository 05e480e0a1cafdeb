-- `format_reader::check_line` meets its contract.
use Rattle.std.proofs.Common.{◌∙◌, ap}
use Rattle.line.specs.Line.{verdict}
use Rattle.format_reader.specs.UnruledLaws.{refusal_unruled}
use Rattle.format_reader.proofs.check_line.Goals as goal

pub returns : goal.returns
returns c = c.check_columns_but.ensures ∙ ap verdict (refusal_unruled _ _)
