-- The rows of a typed set's lines, from its number and its items alone (01, "Records").
use Rattle.std.specs.Prelude.{List, [], ◌∷◌, ◌++◌, map, ℕ, zero, suc, ◌+◌, ◌-◌, ◌/◌, length, get_or}
use Rattle.field.specs.Item.{Item}
use Rattle.record_table.specs.Row.{Row, first_fields}
use Rattle.record_table.specs.TypedSets.{kind_of, sequence, Following, nothing, list, lists, data_lines, following}
use Rattle.record_table.specs.Records.{record_of, data_row}
use Rattle.record.specs.Declares.{case_by, stored_by}
use Rattle.theory.specs.Sets.{number_at}

-- how many lines hold this many numbers, of n in a full line
unfoldable pub lines_for : ℕ → ℕ → ℕ
lines_for n left = (left + (n - 1)) / n

-- the rows of the lines that hold what is left: "all full but the last, which holds only what is left"
unfoldable pub number_rows : Row → ℕ → ℕ → List Row
number_rows r zero left = []
number_rows r (suc k) left = first_fields left r ∷ number_rows r k (left - length r.fields)

abbrev pub rows_holding : Row → ℕ → List Row
rows_holding r left = number_rows r (lines_for (length r.fields) left) left

-- the rows of the lines that follow a set's records: none; a list, "no line at all for a count of 0"; two lists; 58's data lines, for the
-- numbers that its count of values stores
abbrev pub rows_after : Following → List (List Item) → List Row
rows_after nothing ls = []
rows_after (list r p i) ls = rows_holding (record_of r) (number_at ls p i)
rows_after (lists r p i j) ls = rows_holding (record_of r) (number_at ls p i) ++ rows_holding (record_of r) (number_at ls p j)
rows_after (data_lines p) ls = rows_holding (data_row (case_by (get_or ls p []))) (stored_by (get_or ls p []))

unfoldable pub lists_of : ℕ → List (List Item) → List Row
lists_of kind ls = rows_after (following kind) ls

-- the rows of a typed set's lines: its records in order, then those lines
unfoldable pub set_rows : ℕ → List (List Item) → List Row
set_rows n ls = map record_of (sequence (kind_of n)) ++ lists_of (kind_of n) ls
