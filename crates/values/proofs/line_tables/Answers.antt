-- `values::line_tables` meets its contract.
use Rattle.std.proofs.Common.{refl, sym, ◌∙◌, arith}
use Rattle.layout.specs.LayoutLaws.{fields_of_some}
use Rattle.values.specs.LinesLaws.{row_count, row_fits, first_width, tables_for}
use Rattle.values.proofs.line_tables.Goals as goal

pub bounds-widths-0 : goal.bounds-widths-0
bounds-widths-0 c = omega (arith, row_count _ _ c.requires.1.1, fields_of_some c.args.d.case c.requires.0)

pub overflow_sub-letter : goal.overflow_sub-letter
overflow_sub-letter c = omega (arith, (first_width _ _ c.requires.1.1 _ c.requires.0 c.from.ensures).0)

pub bounds-file-past : goal.bounds-file-past
bounds-file-past c =
    let width = first_width _ _ c.requires.1.1 _ c.requires.0 c.from.ensures in
    omega (arith, width.0, c.if-file-past.false)

pub put_tables-requires : goal.put_tables-requires
put_tables-requires c = row_fits _ _ c.requires.1.1 c.requires.0

pub returns : goal.returns
returns c =
    let put = c.put_tables.ensures in
    let letter = sym c.is_letter.ensures ∙ c.if-not-is_letter.false in
    tables_for _ _ _ _ _ _ c.requires.1.1 letter put.0 put.1 refl
