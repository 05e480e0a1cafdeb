-- `usual_columns::is_usual_data_form` meets its contract.
use Rattle.std.proofs.Common.{refl}
use Prim.{tt}
use Rattle.codes.specs.Form.{form_of, forms}
use Rattle.laws.specs.ChoiceLaws.{false_not_true}
use Rattle.usual_columns.specs.Cells.{field_cells}
use Rattle.usual_columns.specs.Parts.{data_parts, parts_cells, record_cells, Asked}
use Rattle.usual_columns.specs.PartsLaws.{usual_passes, data_usual}
use Rattle.usual_columns.proofs.is_usual_data_form.Goals as goal

pub returns-then-passes : goal.returns-then-passes
unfolding data_parts parts_cells record_cells field_cells Asked form_of forms
returns-then-passes c h =
    let line = c.args.line.now in
    usual_passes data_parts line data_usual refl refl refl c.passes-arg-1.given (c.passes.ensures c.if-passes.true)
    (tt, (c.asks.ensures h, (tt, (tt, (tt, (tt, (tt)))))))

pub returns : goal.returns
returns c h = false_not_true h
