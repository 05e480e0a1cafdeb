-- The stored numbers of a 58 of a list (01, "Records": "With n fields in a full line and k numbers in a value, stored number j has as its
-- own columns those of field j mod n on data line j / n (whole part), all from 0"); eleven lines come before the data lines.
use Rattle.std.specs.Prelude.{[], List, ◌≡◌, ℕ, ◌+◌, ◌*◌, ◌-◌, ◌<◌, get_or, length, take, drop}
use Rattle.line.specs.Line.{filled}
use Rattle.layout.specs.Columns.{line_of, field_of, field_start}
use Rattle.layout.specs.Layout.{fields_of, numbers_of, layout_of}
use Rattle.field.specs.Item.{Item, blank}
use Rattle.record_table.specs.Row.{first_fields}
use Rattle.record_table.specs.Records.{data_row}
use Rattle.record_table.specs.TypedSets.{header_lines}
use Rattle.record.specs.Written.{Written}
use Rattle.theory.specs.Sets.{Set}
use Rattle.theory.specs.Due.{lines_for}
use Rattle.parts_laws.specs.Declares.{declared, set_case}
use Rattle.parts.specs.Parts as Parts

-- how many there are
unfoldable pub stored_count : Set → ℕ
stored_count s = declared s * numbers_of (set_case s)

-- number j
unfoldable pub stored_item : Set → ℕ → Item
stored_item s j = get_or (get_or s.lines (header_lines + line_of (fields_of (set_case s)) j) []) (field_of (fields_of (set_case s)) j) blank

-- the own columns of a stored number in a text, by its case
unfoldable pub own_columns : ℕ → Parts.Part → ℕ → List ℕ
own_columns c p j =
    take (get_or (layout_of c).widths (field_of (fields_of c) j) 0)
    (drop (field_start (layout_of c).widths (field_of (fields_of c) j)) (Parts.line_of p (header_lines + line_of (fields_of c) j)))

-- the same of a set of a list
pub record DataLines (s : Set) (css : List (List ℕ)) : Type 0 where
  pub written : (k : ℕ) → k < lines_for (fields_of (set_case s)) (stored_count s)
      → Written (first_fields (stored_count s - k * fields_of (set_case s)) (data_row (set_case s))) (get_or s.lines (header_lines + k) []) (filled (get_or css (header_lines + k) []))
  pub count : length css ≡ header_lines + lines_for (fields_of (set_case s)) (stored_count s)
