-- `usual_columns::Tables::put_row` meets its contract.
use Rattle.std.proofs.Common.{◌≡◌, ℕ, List, take}
use Rattle.layout.specs.Columns.{field_start}
use Rattle.usual_columns.specs.declared.Tables.{Tables}
use Rattle.usual_columns.specs.Cells.{Grown, row_cells}
use Rattle.usual_columns.proofs.Tables.put_row.Given as goal

-- the fields before field k stand
pub record Going (t₀ : Tables) (widths : List ℕ) (letter most : ℕ) (t : Tables) (at k : ℕ) : Type 0 where
  pub at_is : at ≡ field_start widths k
  pub grown : Grown 0 (row_cells letter most (take k widths)) t₀ t

abbrev pub invariant-loop-width : goal.invariant-loop-width
invariant-loop-width l = Going l.initial.self l.widths l.e.letter l.e.most l.self l.at l.width-index
