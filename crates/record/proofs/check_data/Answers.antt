-- `record::check_data` meets its contract.
use mathlib.Core.Path.{sym, ◌∙◌, ap}
use mathlib.Core.List.{List}
use native.Mathlib.Nat.{le_trans}
use native.Mathlib.Omega.{arith}
use lib.ListN.{take, length-take}
use lib.Seq.{length-take-le}
use Rattle.record_table.specs.Row.{Field}
use Rattle.line.specs.Line.{verdict}
use Rattle.record.specs.Check.{fields_refusal}
use Rattle.record.specs.CheckLaws.{field_list_take, total_take}
use Rattle.record.specs.ConditionLaws.{data_six, data_fields, data_fits}
use Rattle.record.specs.TakenLaws.{data_blank, data_filled, data_due_all}
use Rattle.record.proofs.check_data.Goals as goal

pub check_columns-requires : goal.check_columns-requires
check_columns-requires c = (omega (arith, data_six _ _ c.line_widths-widths.ensures), data_fits _ _ c.line_widths-widths.ensures)

pub returns-then-fields-ge6 : goal.returns-then-fields-ge6
returns-then-fields-ge6 c =
    let args = c.args in
    let full = data_fields _ _ c.line_widths-widths.ensures in
    c.check_columns.ensures
    ∙ ap (λ (fs : List Field). verdict (fields_refusal fs args.line.now)) (full ∙ sym (data_due_all args.case args.fields args.line.now c.if-fields-ge6.true))

pub slice_bounds-check_columns-end-then-is_unpadded-2 : goal.slice_bounds-check_columns-end-then-is_unpadded-2
slice_bounds-check_columns-end-then-is_unpadded-2 c = sym (length-take-le _ _ (omega (arith, data_six _ _ c.line_widths-widths.ensures)))

pub check_columns-requires-then-is_unpadded : goal.check_columns-requires-then-is_unpadded
check_columns-requires-then-is_unpadded c =
    let line = c.line_widths-widths in
    let few = total_take line.result c.args.fields in
    (simp length-take (omega (arith, data_six _ _ line.ensures)), le_trans few (data_fits _ _ line.ensures))

pub returns-then-is_unpadded : goal.returns-then-is_unpadded
returns-then-is_unpadded c =
    let args = c.args in
    let full = data_fields _ _ c.line_widths-widths.ensures in
    let blank = sym c.is_unpadded.ensures ∙ c.if-is_unpadded.true in
    c.check_columns-then-is_unpadded.ensures
    ∙ ap (λ (fs : List Field). verdict (fields_refusal fs args.line.now))
    (field_list_take _ _ args.fields ∙ ap (take args.fields) full ∙ sym (data_blank args.case args.fields args.line.now blank))

pub check_columns-requires-2 : goal.check_columns-requires-2
check_columns-requires-2 c = (omega (arith, data_six _ _ c.line_widths-widths.ensures), data_fits _ _ c.line_widths-widths.ensures)

pub returns : goal.returns
returns c =
    let args = c.args in
    let full = data_fields _ _ c.line_widths-widths.ensures in
    let filled = sym c.is_unpadded.ensures ∙ c.if-is_unpadded.false in
    c.check_columns-2.ensures
    ∙ ap (λ (fs : List Field). verdict (fields_refusal fs args.line.now)) (full ∙ sym (data_filled args.case args.fields args.line.now filled))
