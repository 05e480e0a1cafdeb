-- The columns that the code reads are a stored number's own.
use Rattle.std.specs.Prelude.{◌≡◌, List, ℕ, ◌+◌, ◌/◌, ◌%◌, ◌≤◌, get_or, drop}
use Rattle.std.proofs.Math.Path.{refl}
use Rattle.std.proofs.Common.{arith}
use Rattle.laws.specs.Cut.{cut}
use Rattle.layout.specs.Columns.{line_of, field_of, field_start, field_past}
use Rattle.layout.specs.Layout.{layout_of, fields_of}
use Rattle.record_table.specs.TypedSets.{header_lines}
use Rattle.parts.specs.Parts.{Part, line_start, closing_start}
use Rattle.parts.specs.Scan.{skip_to}
use Rattle.parts.specs.Set.{Standing}
use Rattle.parts.specs.SetLaws.{line_at_lem}
use Rattle.parts.specs.Function.{part_case, data_line, first_byte, past_byte}
use Rattle.reader.specs.declared.Data.{Data}
use Rattle.reader.specs.declared.Span.{Span}
use Rattle.reader.specs.Find.{data58, line_at, span_of}

-- by line, first column and width
pub span_by : (file : List ℕ) (d : Data) (j n at s w : ℕ) → n ≡ fields_of d.case
    → at ≡ skip_to (header_lines + j / n) d.closing d.body (cut (drop d.body file)).lines
    → s ≡ field_start (layout_of d.case).widths (j % n) → w ≡ get_or (layout_of d.case).widths (j % n) 0
    → ◌≡◌ {A = Span} (record { first = at + s; past = at + s + w }) (span_of file d j)
unfolding span_of line_at field_past line_of field_of
span_by file d j n at s w e q f g =
    let z : at + s + w ≡ at + (s + w) = omega arith in
    rw (z, q, f, g, e) refl

pub span_ordered : (file : List ℕ) (d : Data) (j : ℕ) → (span_of file d j).first ≤ (span_of file d j).past
unfolding span_of field_past
span_ordered file d j = omega arith

-- of a set that stands in the file
module _ (file : List ℕ) (n at : ℕ) (p : Part) (ps : List Part) (s : Standing file n at p ps) (count j : ℕ) where
  pub line_own : line_at file (data58 (line_start p 0) (closing_start p) (part_case p) count) j ≡ data_line p j
  unfolding line_at data_line
  line_own = line_at_lem file n at p ps s _

  pub first_own : (span_of file (data58 (line_start p 0) (closing_start p) (part_case p) count) j).first ≡ first_byte p j
  unfolding span_of first_byte
  first_own = rw line_own refl

  pub past_own : (span_of file (data58 (line_start p 0) (closing_start p) (part_case p) count) j).past ≡ past_byte p j
  unfolding span_of past_byte
  past_own = rw line_own refl
