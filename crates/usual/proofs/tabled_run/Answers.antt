-- `usual::tabled_run` meets its contract.
use mathlib.Core.Path.{sym}
use native.Mathlib.Omega.{arith}
use lib.Seq.{length-take-le}
use Rattle.record.specs.ConditionLaws.{data_six}
use Rattle.usual_columns.specs.WidthsLaws.{fields_six}
use Rattle.usual.specs.TakenLaws.{shape_widths, shape_fits, shape_columns}
use Rattle.usual.proofs.tabled_run.Goals as goal

pub slice_bounds-widths-end : goal.slice_bounds-widths-end
slice_bounds-widths-end c = omega (arith, fields_six c.args.shape.case, c.requires.1.fields_are)

pub slice_bounds-put_tables-end : goal.slice_bounds-put_tables-end
slice_bounds-put_tables-end c = sym (length-take-le _ _ (omega (arith, data_six _ _ c.line_widths-widths.ensures, fields_six c.args.shape.case, c.requires.1.fields_are)))

pub put_tables-requires : goal.put_tables-requires
put_tables-requires c = shape_fits _ c.requires.1 _ c.line_widths-widths.ensures

pub passed_lines-requires : goal.passed_lines-requires
passed_lines-requires c =
    let shaped = c.requires.1 in
    let six = c.line_widths-widths.ensures in
    let put = c.put_tables.ensures in
    (c.requires.0, record { shaped = shaped; laid = rw (shape_widths _ shaped _ six, shape_columns _ shaped _ six _ put.0) at put.1 })
