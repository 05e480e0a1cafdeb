-- Blank lines, delimiters and number lines (01, "Lines and sets"), each as a relation and as a test on the line's 80 columns.
use Rattle.std.specs.Prelude.{◌≡◌, Bool, false, ◌&&◌, List, [], ◌∷◌, ◌++◌, ℕ, ◌≤◌, eqb, length, take, drop, Ok, Err}
use Rattle.laws.specs.Choice.{pick}
use Rattle.text.specs.Blank.{Blanks, all_blank}
use Rattle.integer.specs.Spelling.{IntegerSpelling}
use Rattle.integer.specs.Integer.{Held, integer_of}

-- "A delimiter is four blanks, `-1`, and then only blanks"
pub data Delimiter : List ℕ → Type 0 where
  delimiter : {bl : List ℕ} → Blanks bl → Delimiter (32 ∷ 32 ∷ 32 ∷ 32 ∷ 45 ∷ 49 ∷ bl)

-- "a number line (I6, from 1 to 999999, then blanks)", of this number
pub data NumberLine : ℕ → List ℕ → Type 0 where
  number_line : {v : ℕ} (field bl : List ℕ) → length field ≡ 6 → IntegerSpelling false v field → 1 ≤ v → v ≤ 999999 → Blanks bl
      → NumberLine v (field ++ bl)

-- these bytes, and then only blanks
unfoldable pub then_blank : List ℕ → List ℕ → Bool
then_blank [] l = all_blank l
then_blank (p ∷ ps) [] = false
then_blank (p ∷ ps) (b ∷ bs) = eqb b p && then_blank ps bs

-- a delimiter as a test
unfoldable pub is_delimiter : List ℕ → Bool
is_delimiter l = then_blank (32 ∷ 32 ∷ 32 ∷ 32 ∷ 45 ∷ 49 ∷ []) l

-- the number of an integer that is above zero, otherwise 0
abbrev pub positive : Held → ℕ
positive (Ok i) = pick i.minus 0 i.size
positive (Err f) = 0

-- the dataset number of a number line of 80 columns, 0 where it is wrong
unfoldable pub dataset_number : List ℕ → ℕ
dataset_number l = pick (all_blank (drop 6 l)) (positive (integer_of (take 6 l))) 0
