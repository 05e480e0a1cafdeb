-- `usual_columns::is_usual` meets its contract.
use Rattle.std.proofs.Common.{not, sym, ap, ◌∙◌}
use Rattle.laws.specs.ChoiceLaws.{false_not_true}
use Rattle.usual_columns.specs.PartsLaws.{identification_passes}
use Rattle.usual_columns.proofs.is_usual.Goals as goal

pub returns-then-row-eq-IDENTIFICATION_FORM : goal.returns-then-row-eq-IDENTIFICATION_FORM
returns-then-row-eq-IDENTIFICATION_FORM c h =
    rw c.if-row-eq-IDENTIFICATION_FORM.true
    (identification_passes c.args.line.now c.is_blank-arg-1.given (sym (ap not c.is_blank.ensures) ∙ h))

pub returns-then-row-eq-FUNCTION_FORM : goal.returns-then-row-eq-FUNCTION_FORM
returns-then-row-eq-FUNCTION_FORM c h = rw c.if-row-eq-FUNCTION_FORM.true (c.is_usual_function.ensures h)

pub returns-then-row-eq-DATA_FORM : goal.returns-then-row-eq-DATA_FORM
returns-then-row-eq-DATA_FORM c h = rw c.if-row-eq-DATA_FORM.true (c.is_usual_data_form.ensures h)

pub returns-then-row-eq-AXIS_FORM : goal.returns-then-row-eq-AXIS_FORM
returns-then-row-eq-AXIS_FORM c h = rw c.if-row-eq-AXIS_FORM.true (c.is_usual_axis.ensures h)

pub returns : goal.returns
returns c h = false_not_true h
