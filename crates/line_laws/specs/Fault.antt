-- Why a line is refused by itself, and where (01, "What comes back": 2, 3 and 4; 02, C-14: the column "of the first such byte for 2 ..,
-- otherwise 1"). Said from the line's columns: nothing here runs the check.
use Rattle.std.specs.Prelude.{Bool, false, List, [], ◌∷◌, ◌++◌, ℕ, ◌+◌, ◌≤◌, ◌<◌, length}
use Rattle.line.specs.Line.{refusal, Allowed}
use Rattle.line.specs.declared.Refusal.{Refusal}

-- the column, from 1, of a byte that is not allowed; every one before it is
pub data BadByte : List ℕ → ℕ → Type 0 where
  bad_byte : {b : ℕ} (before after : List ℕ) → Allowed before → (Allowed (b ∷ []) → ⊥) → BadByte (before ++ (b ∷ after)) (length before + 1)

-- the refusal of a line that has its LF (true) or not, by the columns before it: "On one line, 2, 3, 4 come first in that order"
pub data LineFault : Bool → List ℕ → Refusal → Type 0 where
  -- "a byte not allowed", past column 80 too
  byte : {ended : Bool} {cs : List ℕ} {c : ℕ} → BadByte cs c → LineFault ended cs (refusal 2 c)
  -- "over 80 columns"
  long : {ended : Bool} {cs : List ℕ} → Allowed cs → 80 < length cs → LineFault ended cs (refusal 3 1)
  -- "last line without LF"
  unended : {cs : List ℕ} → Allowed cs → length cs ≤ 80 → LineFault false cs (refusal 4 1)
