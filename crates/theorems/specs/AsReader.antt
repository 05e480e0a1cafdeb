-- A stored number of a 58 as the question of C-15 shows it on its data line and as the reader shows it (02, C-15: "a real as the reader shows it, bytes from 0
-- in the line filled with blanks").
use Rattle.std.specs.Prelude.{◌≡◌, Bool, true, List, [], ◌∷◌, ℕ, ◌+◌, get_or}
use Rattle.line.specs.Line.{columns}
use Rattle.layout.specs.Columns.{line_of, field_of}
use Rattle.layout.specs.Layout.{fields_of}
use Rattle.record_table.specs.TypedSets.{header_lines}
use Rattle.parts.specs.Parts.{Part}
use Rattle.parts.specs.Function.{part_case, data_line}
use Rattle.reader.specs.Reader.{Said, said, shown, stored_number}
use Rattle.format_reader.specs.Question.{Seen, number}

-- the data line of stored number j, without its end, and which of its fields the number is
abbrev pub data_columns : Part → ℕ → List ℕ
data_columns q j = columns true (get_or q.body (header_lines + line_of (fields_of (part_case q)) j) [])

abbrev pub data_field : Part → ℕ → ℕ
data_field q j = field_of (fields_of (part_case q)) j

-- both show one sign, coefficient and scale; the reader's bytes are counted from the file's first, the question's from the line's
pub record AsReader (bytes : List ℕ) (k j : ℕ) (q : Part) (s : Said Seen) : Type 0 where
  pub first : ℕ
  pub past : ℕ
  pub sign : Bool
  pub coefficient : ℕ
  pub below : Bool
  pub size : ℕ
  pub asked : s ≡ said 0 3 (number (shown first past sign coefficient below size) ∷ [])
  pub stored : stored_number bytes k j ≡ said 0 0 (shown (data_line q j + first) (data_line q j + past) sign coefficient below size ∷ [])
