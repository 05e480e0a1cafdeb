-- `usual_columns::Tables::put_exponent` meets its contract.
use Rattle.usual_columns.specs.CellsLaws.{grown_exponent}
use Rattle.usual_columns.proofs.Tables.put_exponent.Goals as goal

pub returns : goal.returns
returns c = grown_exponent _ _ _ _ _ _ _ _ c.requires c.put_column.ensures c.put_column-2.ensures c.put_column-3.ensures
