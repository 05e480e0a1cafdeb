-- A 58 as it stands in a file: its declared count, its case, and the columns of its stored numbers (01, "Records": "stored number j has as
-- its own columns those of field j mod n on data line j / n (whole part), all from 0").
use Rattle.std.specs.Prelude.{ℕ, ◌+◌, ◌*◌}
use Rattle.laws.specs.Choice.{pick}
use Rattle.layout.specs.Columns as Columns
use Rattle.layout.specs.Layout.{layout_of, fields_of, numbers_of}
use Rattle.record_table.specs.TypedSets.{header_lines, line_seven}
use Rattle.record.specs.Declares.{case_in, count_in}
use Rattle.parts.specs.Parts.{Part, is_function, line_start, line_of}

-- its case, from its line 7, from 0
unfoldable pub part_case : Part → ℕ
part_case p = case_in (line_of p line_seven)

-- "declared count", from its line 7; 0 unless it is a 58
unfoldable pub count_of : Part → ℕ
count_of p = pick (is_function p) (count_in (line_of p line_seven)) 0

-- how many numbers it stores
unfoldable pub stored_of : Part → ℕ
stored_of p = count_of p * numbers_of (part_case p)

-- "first byte of the data lines", which eleven lines come before; 0 unless it is a 58
unfoldable pub data_start : Part → ℕ
data_start p = pick (is_function p) (line_start p header_lines) 0

-- the first byte of the data line of stored number j
unfoldable pub data_line : Part → ℕ → ℕ
data_line p j = line_start p (header_lines + Columns.line_of (fields_of (part_case p)) j)

-- the first and the past byte of its own columns
unfoldable pub first_byte : Part → ℕ → ℕ
first_byte p j = data_line p j + Columns.field_start (layout_of (part_case p)).widths (Columns.field_of (fields_of (part_case p)) j)

unfoldable pub past_byte : Part → ℕ → ℕ
past_byte p j = data_line p j + Columns.field_past (layout_of (part_case p)).widths (Columns.field_of (fields_of (part_case p)) j)
