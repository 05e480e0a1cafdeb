-- The stored numbers of a 58 of an accepted file: each is a real that its own columns spell.
use Rattle.std.specs.Prelude.{List, ℕ, ◌-◌, ◌≤◌, ◌<◌, length, take, drop}
use Rattle.reader.specs.declared.Data.{Data}
use Rattle.reader.specs.Find.{span_of}
use Rattle.values.specs.Scale.{RealColumns}

-- the bytes from first to before past
pub record RealIn (file : List ℕ) (first past : ℕ) : Type 0 where
  pub inside : past ≤ length file
  pub columns : RealColumns (take (past - first) (drop first file))

-- the first so many stored numbers
pub record AllReal (file : List ℕ) (d : Data) (count : ℕ) : Type 0 where
  pub real : (j : ℕ) → j < count → RealIn file (span_of file d j).first (span_of file d j).past
