-- `record::check_columns` meets its contract.
use Rattle.std.proofs.Common.{◌∙◌, ap}
use Rattle.line.specs.Line.{verdict}
use Rattle.record.specs.OverlookedLaws.{refusal_whole}
use Rattle.record.proofs.check_columns.Goals as goal

pub returns : goal.returns
returns c = c.check_columns_but.ensures ∙ ap verdict (refusal_whole _ _)
