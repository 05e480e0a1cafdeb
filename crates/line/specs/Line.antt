-- Lines (01, "Lines and sets"): "Bytes are 32 to 126, LF, and CR directly before LF. Each line ends in LF or CR LF and has at most
-- 80 columns, its end not counted. A short line reads as if filled with blanks."
use Rattle.std.specs.Prelude.{Bool, true, false, ◌&&◌, List, [], ◌∷◌, ◌++◌, ℕ, ◌+◌, ◌≤◌, leb, ltb, eqb, length, take, replicate, Result, Ok, Err}
use Rattle.laws.specs.Choice.{pick}
use Rattle.line.specs.declared.Refusal.{Refusal}

-- a refusal's number and column
abbrev pub refusal : ℕ → ℕ → Refusal
refusal n c = record { number = n; column = c }

-- nothing is wrong
abbrev pub passed : Refusal
passed = refusal 0 0

-- what a check answers: nothing is wrong where the number is 0; any other is a refusal
unfoldable pub verdict : Refusal → Result (Unit {0}) Refusal
verdict f = pick (eqb f.number 0) (Ok tt) (Err f)

-- "Bytes are 32 to 126"
pub data Allowed : List ℕ → Type 0 where
  none : Allowed []
  more : {b : ℕ} {bs : List ℕ} → 32 ≤ b → b ≤ 126 → Allowed bs → Allowed (b ∷ bs)

-- the same of one byte, as a test
unfoldable pub is_allowed : ℕ → Bool
is_allowed b = leb 32 b && leb b 126

-- the same of all bytes
unfoldable pub all_allowed : List ℕ → Bool
all_allowed [] = true
all_allowed (b ∷ bs) = is_allowed b && all_allowed bs

-- without a CR at the end
unfoldable pub without_return : List ℕ → List ℕ
without_return [] = []
without_return (b ∷ []) = pick (eqb b 13) [] (b ∷ [])
without_return (b ∷ c ∷ cs) = b ∷ without_return (c ∷ cs)

-- the columns of a line, of the bytes before its LF: "CR directly before LF" belongs to the end, where there is an LF (true)
unfoldable pub columns : Bool → List ℕ → List ℕ
columns true l = without_return l
columns false l = l

-- the column, counted from the one given, of the first byte not allowed; 0 where all are
unfoldable pub first_bad : ℕ → List ℕ → ℕ
first_bad k [] = 0
first_bad k (b ∷ bs) = pick (is_allowed b) (first_bad (k + 1) bs) k

-- what a line's columns are refused for by themselves: "On one line, 2, 3, 4 come first in that order". A byte not
-- allowed is 2 wherever it stands, past column 80 too. A line that has lost its LF (false) is 4. The column is the first such byte's for 2, otherwise 1.
unfoldable pub line_fault : Bool → List ℕ → Refusal
line_fault ended cs =
    pick (ltb 0 (first_bad 1 cs)) (refusal 2 (first_bad 1 cs))
    (pick (ltb 80 (length cs)) (refusal 3 1)
    (pick ended passed (refusal 4 1)))

-- "A short line reads as if filled with blanks", to column 80
unfoldable pub filled : List ℕ → List ℕ
filled cs = take 80 (cs ++ replicate 80 32)
