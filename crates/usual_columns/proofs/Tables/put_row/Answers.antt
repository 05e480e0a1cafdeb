use Rattle.std.proofs.Common.{refl, ◌∙◌, arith}
use Rattle.layout.specs.Columns.{field_start}
use Rattle.layout.specs.ColumnsLaws.{field_start_total}
use Rattle.usual_columns.specs.RowLaws.{row_grown_none, row_grown_next, row_grown_all, row_room, row_on}
use Rattle.usual_columns.proofs.Tables.put_row.Goals as goal

pub loop-width-init : goal.loop-width-init
unfolding field_start
loop-width-init c = record { at_is = refl; grown = row_grown_none _ _ c.args.widths.now _ }

pub put_field-requires : goal.put_field-requires
put_field-requires c =
    let inv = c.loop-width.invariant in
    let pre = c.requires in
    row_room _ _ _ _ pre.0 pre.1 c.loop-width-test.true inv.at_is c.from-width.ensures

pub overflow_add-at : goal.overflow_add-at
overflow_add-at c =
    let inv = c.loop-width.invariant in
    let pre = c.requires in
    omega (arith, row_room _ _ _ _ pre.0 pre.1 c.loop-width-test.true inv.at_is c.from-width.ensures)

pub loop-width-preserved : goal.loop-width-preserved
loop-width-preserved c =
    let inv = c.loop-width.invariant in
    let pre = c.requires in
    let more = c.loop-width-test.true in
    record {
      at_is = row_on _ _ _ _ inv.at_is c.from-width.ensures;
      grown = row_grown_next _ _ _ _ _ _ _ _ _ pre.0 more inv.at_is c.from-width.ensures inv.grown c.put_field.ensures;
    }

pub returns : goal.returns
returns c = (
  c.loop-width.invariant.at_is ∙ field_start_total _ _ c.loop-width-test.false,
  row_grown_all _ _ _ _ _ _ c.loop-width-test.false c.loop-width.invariant.grown,
)
