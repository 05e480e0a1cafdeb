-- `record::check_record` meets its contract.
use Rattle.std.proofs.Common.{sym, ◌∙◌, ap}
use Rattle.std.proofs.lemmas.Result.{err_from_is_err_and}
use Rattle.line.specs.Line.{verdict}
use Rattle.record.specs.CheckLaws.{refused_whole, passed_whole}
use Rattle.record.specs.TakenLaws.{taken_record}
use Rattle.record.proofs.check_record.Goals as goal

pub returns-in_err-check_whole : goal.returns-in_err-check_whole
returns-in_err-check_whole c =
    let p = err_from_is_err_and c.from_residual.result c.from_residual.ensures.1 in
    rw (p.1, p.2) (refused_whole _ _ (taken_record _ _) (sym c.in_err-check_whole.was ∙ c.check_whole.ensures))

pub returns : goal.returns
returns c = c.check_condition.ensures ∙ ap verdict (sym (passed_whole _ _ (taken_record _ _) (sym c.in_ok-check_whole.was ∙ c.check_whole.ensures)))
