-- Where the code reads the stored numbers, one after the other.
use Rattle.std.specs.Prelude.{List, ◌≡◌, ℕ, ◌+◌, ◌≤◌, ltb, get_or, drop, length}
use Rattle.laws.specs.Choice.{pick}
use Rattle.laws.specs.Cut.{cut}
use Rattle.layout.specs.Columns.{field_of}
use Rattle.layout.specs.Layout.{fields_of}
use Rattle.parts.specs.Scan.{skip_to}
use Rattle.reader.specs.declared.Data.{Data}
use Rattle.reader.specs.Find.{line_at, span_of}
use Rattle.values.specs.declared.Spot.{Spot}

abbrev pub spot : ℕ → ℕ → ℕ → Spot
spot l k a = record { line = l; field = k; first = a }

-- where stored number j is
unfoldable pub spot_of : List ℕ → Data → ℕ → Spot
spot_of file d j = spot (line_at file d j) (field_of (fields_of d.case) j) (span_of file d j).first

-- one number further, on lines of n fields of widths ws that stop before the byte stop
unfoldable pub next_spot : List ℕ → ℕ → ℕ → List ℕ → Spot → Spot
next_spot file stop n ws s =
    pick (ltb (s.field + 1) n) (spot s.line (s.field + 1) (s.first + get_or ws s.field 0))
    (spot (skip_to 1 stop s.line (cut (drop s.line file)).lines) 0 (skip_to 1 stop s.line (cut (drop s.line file)).lines))

-- stored number j is there, on a line that begins inside the file
pub record AtSpot (file : List ℕ) (d : Data) (j : ℕ) (s : Spot) : Type 0 where
  pub spot_is : s ≡ spot_of file d j
  pub inside : s.line ≤ length file
