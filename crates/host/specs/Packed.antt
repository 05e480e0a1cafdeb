-- A reply as one number word of 64 bits for the C host: number * 2^57 + column * 2^32 + place. The number is taken modulo 2^7, the column is at
-- most 2^25 − 1 and the place is taken modulo 2^32, so that the word is defined for every reply; numbers are at most 27, or 127, and places are
-- lines of a file or a header, sets, indices of stored numbers, lengths of an accepted text, a value's or a field's kind, the 20 bytes of a stored
-- number, or how many f64 a 58 stores.
use Rattle.std.specs.Prelude.{◌≡◌, ℕ, ◌+◌, ◌*◌, ◌/◌, ◌%◌, ◌≤◌, ◌<◌, ltb}
use Rattle.laws.specs.Choice.{pick}
use Rattle.judge.specs.declared.Reply.{Reply}
use Rattle.judge.specs.Judge.{reply}

-- "a column over 33,554,431 .. is given as 33,554,431"
unfoldable pub column_bits : ℕ → ℕ
column_bits c = pick (ltb 33554431 c) 33554431 c

unfoldable pub word : Reply → ℕ
word r = r.number % 128 * 144115188075855872 + (column_bits r.column * 4294967296 + r.place % 4294967296)

-- a reply of which the word loses nothing, as every reply of the judge (`theorems` TableLaws: `judged_bounds`)
pub record InWord (r : Reply) : Type 0 where
  pub number : r.number < 128
  pub column : r.column ≤ 33554431
  pub place : r.place < 4294967296

-- a number and a place, no column
abbrev pub packed : ℕ → ℕ → ℕ
packed number place = word (reply number place)

-- the number, the column and the place that a word carries, as the header's UFF_NUMBER, UFF_COLUMN and UFF_PLACE take them
abbrev pub number_in : ℕ → ℕ
number_in w = w / 144115188075855872

abbrev pub column_in : ℕ → ℕ
column_in w = w / 4294967296 % 33554432

abbrev pub place_in : ℕ → ℕ
place_in w = w % 4294967296

pub record Carries (w : ℕ) (r : Reply) : Type 0 where
  pub number : number_in w ≡ r.number
  pub column : column_in w ≡ r.column
  pub place : place_in w ≡ r.place
