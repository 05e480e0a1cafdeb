-- `usual_columns::put_tables` meets its contract.
use Rattle.std.proofs.Common.{arith}
use Rattle.usual_columns.specs.RowLaws.{table_laid}
use Rattle.usual_columns.proofs.put_tables.Goals as goal

pub returns : goal.returns
returns c =
    let row = c.put_row-past.ensures in
    let end = c.max-end.ensures in
    let blanks = c.put_columns.ensures in
    let rest = c.put_columns-2.ensures in
    let pre = c.requires in
    (omega (arith, row.0, end), table_laid _ _ _ _ _ _ _ _ pre.0 (omega (arith, row.0, end)) (omega (arith, row.0, end, pre.1, pre.2)) row.0 row.1 blanks rest)
