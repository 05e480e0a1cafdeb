-- `usual_columns::is_usual_axis` meets its contract.
use Rattle.std.proofs.Common.{refl}
use Prim.{tt}
use Rattle.codes.specs.Form.{form_of, forms}
use Rattle.laws.specs.ChoiceLaws.{false_not_true}
use Rattle.usual_columns.specs.Parts.{axis_parts, parts_cells, record_cells, Asked}
use Rattle.usual_columns.specs.PartsLaws.{usual_passes, axis_usual}
use Rattle.usual_columns.proofs.is_usual_axis.Goals as goal

pub returns-then-passes : goal.returns-then-passes
unfolding axis_parts parts_cells record_cells Asked form_of forms
returns-then-passes c h =
    let line = c.args.line.now in
    usual_passes axis_parts line axis_usual refl refl refl c.passes-arg-1.given (c.passes.ensures c.if-passes.true)
    (c.asks.ensures h, (tt, (tt, (tt, (tt, (tt, (tt, (tt, (tt)))))))))

pub returns : goal.returns
returns c h = false_not_true h
