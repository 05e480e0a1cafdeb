-- The f64 of each stored number, value by value.
use Rattle.std.specs.Prelude.{◌≡◌, List, ℕ, ◌*◌, ◌<◌, Float, length, take, drop}
use Rattle.real.specs.Real.{Real}
use Rattle.layout.specs.Layout.{numbers_of}
use Rattle.reader.specs.Reader.{said, value_kind, value_with}

-- n f64 are shown, so many for each value, and each value shows its own
pub record Each (g : ℕ → Real) (c count n : ℕ) (xs : List Float) : Type 0 where
  pub counted : n ≡ count * numbers_of c
  pub long : length xs ≡ n
  pub value : (i : ℕ) → i < count → value_with g c i ≡ said 0 (value_kind c) (take (numbers_of c) (drop (i * numbers_of c) xs))
