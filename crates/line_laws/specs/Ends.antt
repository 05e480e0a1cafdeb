-- A file's bytes as they are cut into raw lines, each the bytes before an LF: that every line passes, that the cut has the columns
-- given, and how the bytes are put together again.
use Rattle.std.specs.Prelude.{◌≡◌, true, List, [], ◌∷◌, ◌++◌, map, ℕ}
use Rattle.laws.specs.Cut.{cut}
use Rattle.line.specs.Line.{columns, line_fault, passed}

-- no raw line is refused for its bytes or its length
pub data AllPass : List (List ℕ) → Type 0 where
  none : AllPass []
  more : {l : List ℕ} {ls : List (List ℕ)} → line_fault true (columns true l) ≡ passed → AllPass ls → AllPass (l ∷ ls)

-- the cut leaves no byte after the last LF, every line passes, and the lines have these columns
pub record CutInto (css : List (List ℕ)) (bytes : List ℕ) : Type 0 where
  pub ended : (cut bytes).rest ≡ []
  pub pass : AllPass (cut bytes).lines
  pub same : map (columns true) (cut bytes).lines ≡ css

-- raw lines, each with its LF, and the rest
unfoldable pub joined : List (List ℕ) → List ℕ → List ℕ
joined [] r = r
joined (l ∷ ls) r = l ++ (10 ∷ joined ls r)
