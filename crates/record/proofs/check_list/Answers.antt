-- `record::check_list` meets its contract.
use mathlib.Core.Path.{refl, sym, ◌∙◌}
use native.Mathlib.Nat.{le_trans}
use lib.ListN.{length-take}
use lib.Seq.{length-take-le}
use Rattle.record.specs.CheckLaws.{field_list_take, total_take}
use Rattle.record.specs.ConditionLaws.{fields_all}
use native.Mathlib.Omega.{arith}
use Rattle.record.proofs.check_list.Goals as goal

pub returns-then-fields-ge12 : goal.returns-then-fields-ge12
returns-then-fields-ge12 c = c.check_whole.ensures ∙ rw (fields_all _ _ c.if-fields-ge12.true) refl

pub slice_bounds-check_columns-end-2 : goal.slice_bounds-check_columns-end-2
slice_bounds-check_columns-end-2 c = sym (length-take-le _ _ (omega (arith, c.row_numbers-numbers.ensures.widths_all)))

pub check_columns-requires : goal.check_columns-requires
check_columns-requires c =
    let row = c.row_numbers-numbers in
    let few = total_take row.result.widths c.args.fields in
    (simp length-take (omega (arith, row.ensures.widths_all, row.ensures.forms_all)), le_trans few row.ensures.fits)

pub returns : goal.returns
returns c = c.check_columns.ensures ∙ rw (field_list_take, c.row_numbers-numbers.ensures.listed) refl
