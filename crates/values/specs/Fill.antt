-- What the code finds in numbers that are read, and what it puts into the places lent.
use Rattle.std.specs.Prelude.{List, [], ◌∷◌, ℕ, ltb, Float, Ok, Err}
use Rattle.laws.specs.Choice.{pick}
use Rattle.exact.specs.Bits.{bits_of}
use Rattle.reader.specs.Reader.{Read}

-- the number of a refusal, 0 for a value
abbrev pub refusal_of : Read → ℕ
refusal_of (Ok x) = 0
refusal_of (Err n) = n

-- of the first that is refused
unfoldable pub refusal_in : List Read → ℕ
refusal_in [] = 0
refusal_in (r ∷ rs) = pick (ltb 0 (refusal_of r)) (refusal_of r) (refusal_in rs)

-- the value's bit pattern, or what is given instead
abbrev pub pattern_or : ℕ → Read → ℕ
pattern_or y (Ok x) = bits_of x
pattern_or y (Err n) = y

-- the values alone
unfoldable pub floats_in : List Read → List Float
floats_in [] = []
floats_in (Ok x ∷ rs) = x ∷ floats_in rs
floats_in (Err n ∷ rs) = floats_in rs

-- the places with the bit patterns put in; where a number is refused, and past the last, they keep their contents
unfoldable pub patterns_put : List Read → List ℕ → List ℕ
patterns_put [] out = out
patterns_put (r ∷ rs) [] = []
patterns_put (r ∷ rs) (y ∷ out) = pattern_or y r ∷ patterns_put rs out
