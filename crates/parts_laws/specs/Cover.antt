-- A column that belongs to a field.
use Rattle.std.specs.Prelude.{List, ℕ, ◌<◌, ◌≤◌, length}
use Rattle.layout.specs.Columns.{field_start, field_past}

-- field k of these widths has column a
pub record Covers (ws : List ℕ) (a : ℕ) : Type 0 where
  pub field : ℕ
  pub some : field < length ws
  pub from : field_start ws field ≤ a
  pub past : a < field_past ws field
