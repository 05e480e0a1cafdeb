-- `usual_columns::Tables::put_start` meets its contract.
use Rattle.usual_columns.specs.CellsLaws.{grown_start}
use Rattle.usual_columns.proofs.Tables.put_start.Goals as goal

pub returns : goal.returns
returns c = grown_start _ _ _ _ _ _ _ _ c.requires c.put_column.ensures c.put_column-2.ensures c.put_column-3.ensures
