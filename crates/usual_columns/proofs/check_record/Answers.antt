-- `usual_columns::check_record` meets its contract.
use Rattle.std.proofs.Common.{sym, ◌∙◌, ap, arith}
use Rattle.line.specs.Line.{verdict}
use Rattle.record.specs.CheckLaws.{row_refusal_condition}
use Rattle.record.specs.TakenLaws.{taken_record}
use Rattle.usual_columns.proofs.check_record.Goals as goal

pub returns-then-is_usual : goal.returns-then-is_usual
returns-then-is_usual c = c.check_condition.ensures ∙ ap verdict (sym (row_refusal_condition _ _ (taken_record _ _) _ (sym (c.is_usual.ensures c.if-is_usual.true)) (omega arith)))
