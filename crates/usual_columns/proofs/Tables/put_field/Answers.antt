-- `usual_columns::Tables::put_field` meets its contract.
use Rattle.std.proofs.Common.{refl}
use Rattle.usual_columns.specs.RowLaws.{field_grown}
use Rattle.usual_columns.proofs.Tables.put_field.Goals as goal

pub returns : goal.returns
returns c = field_grown _ _ _ _ _ _ _ _ c.requires.0 c.requires.1 refl c.put_start.ensures c.put_exponent.ensures
