-- Lines taken in a run: each is one that the step of a line accepts, and the state after them is the steps'.
use Rattle.std.specs.Prelude.{◌≡◌, Bool, true, false, ◌&&◌, ◌⊎◌, List, ℕ, ◌+◌, ◌-◌, ◌≤◌, ◌<◌, eqb, length, take, drop}
use Rattle.laws.specs.Cut.{line_len}
use Rattle.line.specs.Line.{passed, columns, line_fault, filled}
use Rattle.layout.specs.Columns.{total}
use Rattle.layout.specs.Layout.{layout_of, fields_of}
use Rattle.real.specs.Real.{is_letter}
use Rattle.record_table.specs.TypedSets.{kind58, header_lines}
use Rattle.walk.specs.declared.Place.{Place}
use Rattle.walk.specs.declared.Place.TheVariants.{Outside, Number, Plain, Typed}
use Rattle.walk.specs.declared.State.{State}
use Rattle.std.specs.Prelude.{Ok}
use Rattle.walk.specs.Due.{due}
use Rattle.walk.specs.Step.{state, step_of}
use Rattle.usual.specs.declared.Shape.{Shape}
use Rattle.usual.specs.declared.Run.{Run}
use Rattle.usual.specs.declared.Ahead.{Ahead}
use Rattle.usual_columns.specs.declared.Tables.{Tables}
use Rattle.usual_columns.specs.Cells.{Laid, table_cells}

-- the columns of the line that begins at a byte
abbrev pub columns_at : List ℕ → ℕ → List ℕ
columns_at b from = columns true (take (line_len (drop from b)) (drop from b))

-- the line that begins at a byte has its LF, is refused neither by itself nor by its place, and leads to the next state and the byte past it
pub record LineTaken (b : List ℕ) (s : State) (from : ℕ) (t : State) (to : ℕ) : Type 0 where
  pub ends : to ≡ from + line_len (drop from b) + 1
  pub within : to ≤ length b
  pub whole : line_fault true (columns_at b from) ≡ passed
  pub step : step_of s (filled (columns_at b from)) ≡ Ok t

-- so many lines, one after the other
pub data Taken (b : List ℕ) (s : State) (from : ℕ) : State → ℕ → ℕ → Type 0 where
  none : Taken b s from s 0 from
  more : {t u : State} {k at to : ℕ} → Taken b s from t k at → LineTaken b t at u to → Taken b s from u (k + 1) to

-- where a 58 stands among its data lines: its case, how many numbers are left
abbrev pub data_state : ℕ → ℕ → ℕ → ℕ → State
data_state c l z n = state (Typed (due kind58 header_lines c l z)) n

-- the byte after the columns and the size of a line with its end: LF, or CR LF
abbrev pub Ends : ℕ → ℕ → ℕ → Type 0
Ends n mark size = ((mark ≡ 10) × (size ≡ n + 1)) ⊎ ((mark ≡ 13) × (size ≡ n + 2))

-- a shape that lines of its case may have
pub record Shaped (h : Shape) : Type 0 where
  pub known : h.case < 8
  pub fields_are : h.fields ≡ fields_of h.case
  pub letter_is : is_letter h.letter ≡ true
  pub row_within : total (layout_of h.case).widths ≤ h.columns
  pub columns_within : h.columns ≤ 80
  pub ends : Ends h.columns h.mark h.size

-- the tables are those of the lines' shape
pub record Ready (h : Shape) (t : Tables) : Type 0 where
  pub shaped : Shaped h
  pub laid : Laid (table_cells h.letter 9 (layout_of h.case).widths h.columns) t

-- a line of this shape begins at a byte: it is taken where more numbers are left than it has fields
pub record LineOf (h : Shape) (b : List ℕ) (at : ℕ) : Type 0 where
  pub within : at + h.size ≤ length b
  pub taken : (l z n : ℕ) → h.fields < l → LineTaken b (data_state h.case l z n) at (data_state h.case (l - h.fields) z n) (at + h.size)

abbrev pub run : ℕ → ℕ → ℕ → Run
run k at left = record { lines = k; at = at; left = left }

abbrev pub ahead : State → ℕ → ℕ → ℕ → Ahead
ahead s k at wait = record { state = s; lines = k; at = at; wait = wait }

-- a run of data lines of a case, from a byte on where so many numbers are left
pub record Ran (b : List ℕ) (c at left : ℕ) (r : Run) : Type 0 where
  pub taken : (z n : ℕ) → Taken b (data_state c left z n) at (data_state c r.left z n) r.lines r.at
  pub within : r.at ≤ length b
  pub few : r.lines + at ≤ r.at

-- no line, and a wait
pub record NoneAhead (s : State) (at : ℕ) (r : Ahead) : Type 0 where
  pub is : r ≡ ahead s 0 at r.wait
  pub waits : 0 < r.wait

-- whether a file stands among the data lines of a 58
abbrev pub in_data : Place → Bool
in_data Outside = false
in_data Number = false
in_data Plain = false
in_data (Typed d) = eqb d.kind kind58 && eqb d.at header_lines

-- a run of lines from a state and a byte on: some, or a wait
pub record RanAhead (b : List ℕ) (s : State) (at : ℕ) (r : Ahead) : Type 0 where
  pub taken : Taken b s at r.state r.lines r.at
  pub within : r.at ≤ length b
  pub few : r.lines + at ≤ r.at
  pub moves : r.at ≤ at → 0 < r.wait
