-- `usual::shape_at` meets its contract.
use Rattle.std.proofs.Common.{sym, ◌∙◌, refl, arith}
use Rattle.layout.specs.LayoutLaws.{widths_six}
use Rattle.layout.specs.ColumnsLaws.{field_start_total}
use Rattle.usual.specs.TakenLaws.{first_width}
use Rattle.usual.proofs.shape_at.Goals as goal

pub overflow_add-letter : goal.overflow_add-letter
overflow_add-letter c = omega (arith, first_width _ _ _ c.requires c.field_width.ensures c.field_start.ensures, c.end_of-columns.ensures.1)

pub overflow_sub-letter : goal.overflow_sub-letter
overflow_sub-letter c = omega (arith, first_width _ _ _ c.requires c.field_width.ensures c.field_start.ensures)

pub bounds-s-at : goal.bounds-s-at
bounds-s-at c = omega (arith, first_width _ _ _ c.requires c.field_width.ensures c.field_start.ensures, c.end_of-columns.ensures.1)

pub returns : goal.returns
returns c =
    let past = c.field_start.ensures ∙ field_start_total _ _ (widths_six c.args.case) in (
      record {
        known = c.requires;
        fields_are = c.fields_of.ensures;
        letter_is = sym c.is_letter.ensures ∙ c.if-not-is_letter.false;
        row_within = omega (arith, past, c.if-columns-field_start.false);
        columns_within = omega arith;
        ends = c.end_of-columns.ensures.0;
      },
      refl,
    )
