-- `record::check_columns_but` meets its contract.
use Rattle.std.proofs.Common.{sym, ◌∙◌}
use Rattle.std.proofs.lemmas.Result.{err_from_is_err_and}
use Rattle.record.specs.OverlookedLaws.{refused_field, refused_stray, refused_none}
use Rattle.record.proofs.check_columns_but.Goals as goal

pub returns-in_err-check_fields : goal.returns-in_err-check_fields
returns-in_err-check_fields c =
    let p = err_from_is_err_and c.from_residual.result c.from_residual.ensures.1 in
    rw (p.1, p.2) (refused_field _ _ _ (sym c.in_err-check_fields.was ∙ c.check_fields.ensures))

pub returns-in-Some : goal.returns-in-Some
returns-in-Some c = refused_stray _ _ _ (sym c.in_ok-check_fields.was ∙ c.check_fields.ensures) (sym c.in-Some.is ∙ c.first_stray.ensures)

pub returns : goal.returns
returns c = refused_none _ _ _ (sym c.in_ok-check_fields.was ∙ c.check_fields.ensures) (sym c.in_default.is ∙ c.first_stray.ensures)
