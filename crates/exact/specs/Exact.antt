-- The f64 of a number (01, "Reader": "A number with coefficient at most 9,007,199,254,740,992 and scale -22 to 22 is the coefficient
-- times, or divided by, an exact power of ten: one operation, one rounding, the sign put on last, on zero too. Any other number makes
-- the whole question 21").
use Rattle.std.specs.Prelude.{Bool, true, false, ℕ, ◌^◌, leb, pos, Float, Option, Some, None}
use Rattle.std.specs.Float.{binary64}
use Rattle.std.specs.Float.Ieee.{of_int, mul, div, neg}
use Rattle.std.specs.Float.Ieee.Exact.{HasValue}
use Rattle.laws.specs.Choice.{pick}

-- the power of ten
unfoldable pub ten_of : ℕ → Float
ten_of k = of_int binary64 (pos (10 ^ k))

-- the coefficient divided by the power of ten where the scale is below zero (true), otherwise times it. No field gives a scale below
-- zero of size 0; it divides by 1, which gives the same f64 (`magnitude_of_zero`).
unfoldable pub magnitude_of : ℕ → Bool → ℕ → Float
magnitude_of c true k = div binary64 (of_int binary64 (pos c)) (ten_of k)
magnitude_of c false k = mul binary64 (of_int binary64 (pos c)) (ten_of k)

-- the sign (true: minus) put on
abbrev pub with_sign : Bool → Float → Float
with_sign true x = neg x
with_sign false x = x

-- of a sign (true: minus), a coefficient, whether the scale is below zero, and the scale's size; none where the number is outside the
-- exact path
unfoldable pub exact_of : Bool → ℕ → Bool → ℕ → Option Float
exact_of n c b k = pick (leb c 9007199254740992) (pick (leb k 22) (Some (with_sign n (magnitude_of c b k))) None) None

-- the f64 is the number n
abbrev pub Is : Float → ℕ → Type 0
Is x n = HasValue x false n 1
