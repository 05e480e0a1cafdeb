-- How integers are spelled (01, "Lines and sets": "An integer field is blanks, an optional sign, and digits that reach the
-- field's last column, in -2147483648 to 2147483647"). Stated by its parts.
use Rattle.std.specs.Prelude.{Bool, true, false, List, ◌++◌, ℕ, ◌<◌, length}
use Rattle.text.specs.Blank.{Blanks}
use Rattle.text.specs.Parts.{Sign, Digits}

-- the columns spell the integer of this sign (true: minus) and size, of any size
pub data IntegerSpelling : Bool → ℕ → List ℕ → Type 0 where
  spelled : {n : Bool} {v : ℕ} (bl sg ds : List ℕ) → Blanks bl → Sign n sg → Digits 0 ds v → 0 < length ds
      → IntegerSpelling n v (bl ++ (sg ++ ds))

-- the largest size in range
abbrev pub limit : Bool → ℕ
limit true = 2147483648
limit false = 2147483647
