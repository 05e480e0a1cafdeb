-- Why a line of a file is refused, and where (01, "What comes back"; 02, C-14: "Every refusal of a line now carries the column too"). Said from
-- the state that the lines before it lead to, which says the row due, and from the line's bytes: no field is checked here.
use Rattle.std.specs.Prelude.{◌≡◌, true, false, List, ℕ, ◌≤◌, length}
use Rattle.text.specs.Blank.{Blanks}
use Rattle.line.specs.Line.{refusal, Allowed, columns, filled}
use Rattle.line.specs.declared.Refusal.{Refusal}
use Rattle.delimiter.specs.Kind.{Delimiter, NumberLine}
use Rattle.walk.specs.Due.{may_close, may_continue, row_due}
use Rattle.walk.specs.declared.Due.{Due}
use Rattle.walk.specs.declared.Place.{Place}
use Rattle.walk.specs.declared.Place.TheVariants.{Outside, Number, Typed}
use Rattle.walk.specs.declared.State.{State}
use Rattle.record_laws.specs.Fault.{RowFault}
use Rattle.line_laws.specs.Fault.{LineFault}

-- the refusal of a line by its place, by the 80 columns, with so many sets opened
pub data PlaceFault (sets : ℕ) (line : List ℕ) : Place → Refusal → Type 0 where
  -- "non-blank line where only a delimiter may open"
  outside : (Blanks line → ⊥) → (Delimiter line → ⊥) → PlaceFault sets line Outside (refusal 5 1)
  -- "a 4,097th set opens"
  many : Delimiter line → 4096 ≤ sets → PlaceFault sets line Outside (refusal 15 1)
  -- "number line wrong, or a delimiter in its place"
  number : ((n : ℕ) → NumberLine n line → ⊥) → PlaceFault sets line Number (refusal 6 1)
  -- "delimiter while a typed set has lines due"
  early : {d : Due} → Delimiter line → may_close d ≡ false → PlaceFault sets line (Typed d) (refusal 7 1)
  -- "another line where the delimiter is due"
  late : {d : Due} → (Delimiter line → ⊥) → may_continue d ≡ false → PlaceFault sets line (Typed d) (refusal 8 1)
  -- 9 to 14, 24 and 25: by the row due
  row : {d : Due} {f : Refusal} → (Delimiter line → ⊥) → may_continue d ≡ true → RowFault (row_due d) line f → PlaceFault sets line (Typed d) f

-- the refusal of a line that has its LF, by the bytes before it
pub data Fault (s : State) (l : List ℕ) (f : Refusal) : Type 0 where
  -- 2, 3: by itself
  own : LineFault true (columns true l) f → Fault s l f
  -- by its place, where nothing is wrong with the line by itself
  place : Allowed (columns true l) → length (columns true l) ≤ 80 → PlaceFault s.sets (filled (columns true l)) s.place f → Fault s l f

-- what the column of a refusal of these bytes can be: 1 or more; the line's, for 2; at most 80 for any other number; 1 for 3 to 9 and 15
pub record InLine (l : List ℕ) (f : Refusal) : Type 0 where
  pub from : 1 ≤ f.column
  pub byte : f.number ≡ 2 → f.column ≤ length l
  pub eighty : (f.number ≡ 2 → ⊥) → f.column ≤ 80
  pub first : 3 ≤ f.number → f.number ≤ 9 → f.column ≡ 1
  pub opening : f.number ≡ 15 → f.column ≡ 1
