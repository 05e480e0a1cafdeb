-- A byte that belongs to a stored number, or to a field of the last data line past them.
use Rattle.std.specs.Prelude.{ℕ, ◌*◌, ◌<◌, ◌≤◌}
use Rattle.layout.specs.Layout.{fields_of}
use Rattle.theory.specs.Sets.{Set}
use Rattle.theory.specs.Due.{lines_for}
use Rattle.parts.specs.Parts as Parts
use Rattle.parts.specs.Function as Function
use Rattle.parts_laws.specs.Declares.{set_case}
use Rattle.parts_laws.specs.Stored.{stored_count}

-- how many fields a 58's data lines have, all full
unfoldable pub field_count : Set → ℕ
field_count s = lines_for (fields_of (set_case s)) (stored_count s) * fields_of (set_case s)

-- a number of the first `count` whose own columns have byte x; those from the stored ones on are padding
pub record Owned (p : Parts.Part) (count x : ℕ) : Type 0 where
  pub index : ℕ
  pub some : index < count
  pub from : Function.first_byte p index ≤ x
  pub past : x < Function.past_byte p index
