-- The number that a field in the usual spelling is read as, and the bit pattern of its f64.
use Rattle.std.specs.Prelude.{◌≡◌, Bool, true, false, not, List, ℕ, ◌+◌, ◌-◌, ◌^◌, ◌≤◌, ◌<◌, T, ltb, Float, length, get_or, Ok}
use Rattle.std.specs.Float.{nan, inf, fin, binary64}
use Rattle.std.specs.Float.Ieee.{fits}
use Rattle.laws.specs.Choice.{pick}
use Rattle.text.specs.Parts.{is_digit}
use Rattle.real.specs.Real.{real_of}
use Rattle.real.specs.Plain.{Few}
use Rattle.exact.specs.Exact.{ten_of, magnitude_of}
use Rattle.exact.specs.Bits.{bits_of}
use Rattle.reader.specs.Reader.{read_of}

-- every column holds a digit
pub record AllDigits (l : List ℕ) : Type 0 where
  pub digit : (i : ℕ) → i < length l → is_digit (get_or l i 0) ≡ true

-- what the digit m and the digits in the columns spell
pub record Spelled (m : ℕ) (l : List ℕ) (v : ℕ) : Type 0 where
  pub few : Few m l v
  pub small : v < 10 ^ (length l + 1)

-- a table of the powers of ten up to 10^n
pub record PowersTo (n : ℕ) (t : List Float) : Type 0 where
  pub power : (k : ℕ) (x : Float) → k ≤ n → get_or t k x ≡ ten_of k

-- where the scale of this exponent (true: minus) stands from -22 on, after so many digits after the point
unfoldable pub place_of : Bool → ℕ → ℕ → ℕ
place_of down x f = pick down (22 - f - x) (22 - f + x)

-- the magnitude of the coefficient and the scale at that place
unfoldable pub magnitude_at : ℕ → ℕ → Float
magnitude_at c p = pick (ltb p 22) (magnitude_of c true (22 - p)) (magnitude_of c false (p - 22))

-- a number or an infinity without a minus
unfoldable pub is_unsigned : Float → Bool
is_unsigned nan = false
is_unsigned (inf s) = not s
is_unsigned (fin s m e) = not s

-- such a one that is an f64
pub record Magnitude (x : Float) : Type 0 where
  pub unsigned : is_unsigned x ≡ true
  pub fitting : T (fits binary64 x)

-- the columns are read as the f64 of this bit pattern
pub record UsualRead (l : List ℕ) (pattern : ℕ) : Type 0 where
  pub value : Float
  pub read_is : read_of (real_of l) ≡ Ok value
  pub pattern_is : pattern ≡ bits_of value
