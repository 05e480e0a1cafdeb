-- Where the code looks for a 58's numbers.
use Rattle.std.specs.Prelude.{Option, Some, None, ◌&&◌, List, [], ◌∷◌, ℕ, ◌+◌, ◌*◌, ltb, Float, drop}
use Rattle.laws.specs.Choice.{pick}
use Rattle.laws.specs.Cut.{cut}
use Rattle.real.specs.Real.{Real}
use Rattle.layout.specs.Columns.{line_of, field_of, field_start, field_past}
use Rattle.layout.specs.Layout.{layout_of, fields_of, numbers_of}
use Rattle.record_table.specs.TypedSets.{header_lines}
use Rattle.parts.specs.Parts.{Part, is_function, line_start, closing_start}
use Rattle.parts.specs.Scan.{skip_to}
use Rattle.parts.specs.Function.{part_case, count_of}
use Rattle.reader.specs.Reader.{Read}
use Rattle.reader.specs.declared.Data.{Data}
use Rattle.reader.specs.declared.Span.{Span}
use Rattle.reader.specs.Reader.{Said, Shown, refused, read_in, read_of, shown_of, value_with}

abbrev pub data58 : ℕ → ℕ → ℕ → ℕ → Data
data58 b e c n = record { body = b; closing = e; case = c; count = n }

-- where the first of these sets has its numbers, if it is a 58 of one of the eight cases
unfoldable pub data_of : List Part → Option Data
data_of [] = None
data_of (p ∷ ps) = pick (is_function p && ltb (part_case p) 8) (Some (data58 (line_start p 0) (closing_start p) (part_case p) (count_of p))) None

-- the first byte of the data line of stored number j
unfoldable pub line_at : List ℕ → Data → ℕ → ℕ
line_at file d j = skip_to (header_lines + line_of (fields_of d.case) j) d.closing d.body (cut (drop d.body file)).lines

-- its own columns
unfoldable pub span_of : List ℕ → Data → ℕ → Span
span_of file d j =
    record {
      first = line_at file d j + field_start (layout_of d.case).widths (field_of (fields_of d.case) j);
      past = line_at file d j + field_past (layout_of d.case).widths (field_of (fields_of d.case) j);
    }

-- what stands there
abbrev pub real_at : List ℕ → Data → ℕ → Real
real_at file d j = read_in file (span_of file d j).first (span_of file d j).past

-- its f64
unfoldable pub read_at : List ℕ → Data → ℕ → Read
read_at file d j = read_of (real_at file d j)

-- value i
unfoldable pub value_at : List ℕ → Data → ℕ → Said Float
value_at file d i = value_with (real_at file d) d.case i

-- the answers by where the numbers are
unfoldable pub number_by : List ℕ → Data → ℕ → Said Shown
number_by file d j =
    pick (ltb j (d.count * numbers_of d.case)) (shown_of (span_of file d j).first (span_of file d j).past (real_at file d j)) (refused 18 0)

unfoldable pub value_by : List ℕ → Data → ℕ → Said Float
value_by file d i = pick (ltb i d.count) (value_at file d i) (refused 18 0)
