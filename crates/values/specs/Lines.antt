-- Full data lines in the usual spelling, taken one after the other.
use Rattle.std.specs.Prelude.{◌≡◌, true, List, ◌++◌, ℕ, ◌+◌, ◌-◌, ◌≤◌, ◌<◌, min, length, get_or, take, drop, Result, Ok, Err, IfSome}
use Rattle.laws.specs.Cut.{cut}
use Rattle.laws.specs.Table.{tabulate}
use Rattle.real.specs.Real.{Real}
use Rattle.real.specs.Real.{is_letter}
use Rattle.layout.specs.Columns.{field_start, total}
use Rattle.layout.specs.Layout.{layout_of, fields_of, cell_of}
use Rattle.parts.specs.Scan.{skip_to}
use Rattle.reader.specs.declared.Data.{Data}
use Rattle.reader.specs.Reader.{Read}
use Rattle.reader.specs.Reader.{reads}
use Rattle.reader.specs.Find.{real_at}
use Rattle.usual_columns.specs.declared.Tables.{Tables}
use Rattle.usual_columns.specs.Cells.{Laid, table_cells}
use Rattle.usual_values.specs.Usual.{UsualField}
use Rattle.usual_values.specs.Number.{PowersTo}
use Rattle.values.specs.declared.Plan.{Plan}
use Rattle.values.specs.declared.Turn.{Turn}
use Rattle.values.specs.Spot.{spot, AtSpot}
use Rattle.values.specs.Fill.{patterns_put}

-- the columns of a field
abbrev pub field : List ℕ → ℕ → ℕ → List ℕ
field file at w = take w (drop at file)

-- a refusal by its number, or none, which is 0
pub data Told : Result Unit ℕ → ℕ → Type 0 where
  none : {u : Unit} → Told (Ok u) 0
  some : {n : ℕ} → 0 < n → Told (Err n) n

-- tables of the set's full lines, with one of the letters, whose exponents are of one digit
pub record TablesFor (d : Data) (columns : ℕ) (t : Tables) : Type 0 where
  pub letter : ℕ
  pub letter_is : is_letter letter ≡ true
  pub columns_are : columns ≡ total (layout_of d.case).widths
  pub laid : Laid (table_cells letter 0 (layout_of d.case).widths columns) t

-- a set's lines, the widths of their fields, and where there are some such tables, with the powers of ten, as far as a file of that length has them
pub record Ready (file : List ℕ) (p : Plan) : Type 0 where
  pub body : p.set.body ≤ length file
  pub eight : p.set.case < 8
  pub fields_are : p.fields ≡ fields_of p.set.case
  pub widths_are : p.widths ≡ tabulate (cell_of p.set.case) 0 6
  pub laid : IfSome p.usual (λ t. TablesFor p.set t.1 t.0 × PowersTo (min (length file) 22) p.tens)

-- the line that begins at the byte at has its fields in the usual spelling, and the next line is the set's
pub record UsualLine (file : List ℕ) (d : Data) (at next : ℕ) : Type 0 where
  pub fields : (k : ℕ) → k < fields_of d.case → UsualField (field file (at + field_start (layout_of d.case).widths k) (get_or (layout_of d.case).widths k 0))
  pub room : at + 80 ≤ length file
  pub next_is : next ≡ skip_to 1 d.closing at (cut (drop at file)).lines
  pub next_inside : next ≤ length file

-- the turn u is past the numbers of a usual line that the turn t opens
pub record UsualTurn (file : List ℕ) (d : Data) (count : ℕ) (t u : Turn) : Type 0 where
  pub opens : AtSpot file d t.number (spot t.spot.line 0 t.spot.line)
  pub usual : UsualLine file d t.spot.line u.spot.line
  pub number_is : u.number ≡ t.number + fields_of d.case
  pub at_spot : AtSpot file d u.number u.spot
  pub within : u.number ≤ count

-- the places once the numbers from j on are put into them
abbrev pub filled : (ℕ → Real) → ℕ → ℕ → List ℕ → List ℕ
filled g count j out = take j out ++ patterns_put (reads g j (count - j)) (drop j out)

-- the numbers from j to before e are put, and no place changes that is not theirs
pub record FilledTo (file : List ℕ) (d : Data) (j e : ℕ) (before after : List ℕ) : Type 0 where
  pub long : length after ≡ length before
  pub same : (count : ℕ) → e ≤ count → count ≤ length before → filled (real_at file d) count e after ≡ filled (real_at file d) count j before
