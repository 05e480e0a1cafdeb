-- Whether a real that is well spelled is in the exact path, told by its scale (01, "Reader": "A number with coefficient at most
-- 9,007,199,254,740,992 and scale -22 to 22"): in at most 20 columns a coefficient has at most 15 digits, so no digit of it is looked at.
use Rattle.std.specs.Prelude.{Bool, ◌||◌, List, [], ◌∷◌, ℕ, suc, ◌+◌, ◌-◌, ◌*◌, ◌%◌, ◌≤◌, ltb, eqb, ℤ, length, get_or}
use Rattle.laws.specs.Choice.{pick}
use Rattle.real.specs.Spelling.{RealSpelling}
use Rattle.real.specs.Real.{is_letter}

-- columns that spell a real, as a field of 13 or 20 has them
pub record RealColumns (l : List ℕ) : Type 0 where
  pub wide : 13 ≤ length l
  pub narrow : length l ≤ 20
  pub minus : Bool
  pub coefficient : ℕ
  pub scale : ℤ
  pub spelling : RealSpelling minus coefficient scale l

-- the column of the point, the first that holds one; past the last where none does
unfoldable pub point_in : List ℕ → ℕ
point_in [] = 0
point_in (b ∷ bs) = pick (eqb b 46) 0 (suc (point_in bs))

-- what stands in a column counted from the end, the last being 1
abbrev pub from_end : ℕ → List ℕ → ℕ
from_end k l = get_or l (length l - k) 0

-- the first column of the exponent: the fifth from the end where a letter stands there, as before three digits, otherwise the fourth
unfoldable pub exponent_in : List ℕ → ℕ
exponent_in l = pick (is_letter (from_end 5 l)) (length l - 5) (length l - 5 + 1)

-- whether the exponent's sign, which stands before two digits or three, is a minus
unfoldable pub is_down : List ℕ → Bool
is_down l = eqb (from_end 3 l) 45 || eqb (from_end 4 l) 45

-- the exponent's size, by the last three columns: a sign, whose byte is below 48, and two digits, or three digits. A digit is its byte's remainder by 16
unfoldable pub size_of : ℕ → ℕ → ℕ → ℕ
size_of third second last = pick (ltb third 48) 0 (third % 16 * 100) + (second % 16 * 10 + last % 16)

abbrev pub size_in : List ℕ → ℕ
size_in l = size_of (from_end 3 l) (from_end 2 l) (from_end 1 l)

-- the greatest size of an exponent of this sign (true: minus) that leaves the scale, the exponent less the digits after the point, in -22 to 22; those digits
-- are at most 22
unfoldable pub most_size : Bool → ℕ → ℕ
most_size down after = pick down (22 - after) (22 + after)
