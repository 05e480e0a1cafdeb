-- `usual_columns::Tables::put_column` meets its contract.
use Rattle.usual_columns.specs.CellsLaws.{grown_set}
use Rattle.std.proofs.Common.{rules}
use Rattle.usual_columns.proofs.Tables.put_column.Goals as goal

pub returns : goal.returns
returns c = grown_set _ _ _ _ _ (search rules)
