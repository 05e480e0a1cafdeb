-- The reader's answers (01, "Reader": "Of a 58 only. By set (from 1) and stored number (from 0): first and past byte of its columns, and
-- the sign, coefficient and scale. By set and value (from 0) an answer of one of four kinds: a real, a complex pair, or either with its
-- abscissa, in f64").
use Rattle.std.specs.Prelude.{Bool, ◌||◌, List, [], ◌∷◌, ◌++◌, ℕ, zero, suc, ◌+◌, ◌-◌, ◌*◌, leb, ltb, eqb, ℤ, Float, Option, Some, None, length, take, drop, Ok, Err, Result}
use Rattle.laws.specs.Choice.{pick}
use Rattle.text.specs.Parts.{signed}
use Rattle.real.specs.Real.{Real}
use Rattle.real.specs.declared.RealFault.TheVariants.{Malformed}
use Rattle.real.specs.Real.{real_of}
use Rattle.exact.specs.Exact.{exact_of}
use Rattle.layout.specs.Layout.{layout_of, numbers_of}
use Rattle.parts.specs.Parts.{Part, parts_of}
use Rattle.parts.specs.Function.{part_case, count_of, stored_of, first_byte, past_byte}
use Rattle.judge.specs.declared.Reply.{Reply}
use Rattle.judge.specs.Judge.{judged, reply}
use Rattle.reader.specs.declared.Stored.{Stored}
use Rattle.reader.specs.declared.Numbers.{Numbers}
use Rattle.reader.specs.declared.Numbers.TheVariants as value

-- what a call says: the paper's number and place, and what it shows
pub record Said (A : Type 0) : Type 0 where
  pub reply : Reply
  pub shown : List A

abbrev pub said : {A : Type 0} → ℕ → ℕ → List A → Said A
said n p s = record { reply = reply n p; shown = s }

-- "A refusal returns its number and place (0 if none is named) and nothing else"
abbrev pub refused_by : {A : Type 0} → Reply → Said A
refused_by r = record { reply = r; shown = [] }

abbrev pub refused : {A : Type 0} → ℕ → ℕ → Said A
refused n p = refused_by (reply n p)

-- "first and past byte of its columns, and the sign, coefficient and scale" of a stored number; the sign is true for a minus, the scale is given
-- by whether it is below zero and its size
pub record Shown : Type 0 where
  pub first : ℕ
  pub past : ℕ
  pub sign : Bool
  pub coefficient : ℕ
  pub below : Bool
  pub size : ℕ

abbrev pub scale_of : Shown → ℤ
scale_of x = signed x.below x.size

abbrev pub shown : ℕ → ℕ → Bool → ℕ → Bool → ℕ → Shown
shown a e n c b k = record { first = a; past = e; sign = n; coefficient = c; below = b; size = k }

-- what each case of the answers says: for a stored number place 0, for a value its kind (1 real, 2 complex pair, 3 abscissa and real,
-- 4 abscissa and complex pair)
abbrev pub paper_number : Result Stored Reply → Said Shown
paper_number (Ok s) = said 0 0 (shown s.first s.past s.minus s.coefficient s.below s.scale ∷ [])
paper_number (Err r) = refused_by r

abbrev pub paper : Result Numbers Reply → Said Float
paper (Ok (value.Real x)) = said 0 1 (x ∷ [])
paper (Ok (value.Complex x y)) = said 0 2 (x ∷ y ∷ [])
paper (Ok (value.RealAt a x)) = said 0 3 (a ∷ x ∷ [])
paper (Ok (value.ComplexAt a x y)) = said 0 4 (a ∷ x ∷ y ∷ [])
paper (Err r) = refused_by r

-- "The .. reader .. judge first; 17 to 21 come after"
abbrev pub judged_first : {A : Type 0} → Reply → Said A → Said A
judged_first r s = pick (ltb 0 r.number) (refused_by r) s

-- "By set (from 1)": the sets from this one on; none for set 0
unfoldable pub sets_from : List ℕ → ℕ → List Part
sets_from file zero = []
sets_from file (suc k) = drop k (parts_of file)

-- what the bytes from a to e, which is past the last of them, mean; nothing where the file ends before
unfoldable pub read_in : List ℕ → ℕ → ℕ → Real
read_in file a e = pick (leb e (length file)) (real_of (take (e - a) (drop a file))) (Err Malformed)

-- "The reader gives a stored number's own columns and, as sign, coefficient and scale, what the bytes there mean"
abbrev pub real_in : List ℕ → Part → ℕ → Real
real_in file p j = read_in file (first_byte p j) (past_byte p j)

-- a stored number, by its columns and what they mean; 18 where they hold none, which no accepted file has: the judge gives 12 for it
-- (crates/theorems, `reader_numbers`)
abbrev pub shown_of : ℕ → ℕ → Real → Said Shown
shown_of a e (Ok n) = said 0 0 (shown a e n.minus n.coefficient n.below n.scale ∷ [])
shown_of a e (Err _) = refused 18 0

-- 18 "no such set, number .., or not a 58": no set, or an index not below its stored numbers, of which only a 58 has any
abbrev pub number_from : List ℕ → List Part → ℕ → Said Shown
number_from file [] j = refused 18 0
number_from file (p ∷ ps) j =
    pick (ltb j (stored_of p)) (shown_of (first_byte p j) (past_byte p j) (real_in file p j)) (refused 18 0)

-- a stored number by its set and index
unfoldable pub stored_number : List ℕ → ℕ → ℕ → Said Shown
stored_number file set j = judged_first (judged file) (number_from file (sets_from file set) j)

-- a number's f64, or the number of its refusal
abbrev pub Read : Type 0
Read = Result Float ℕ

-- 21 "number outside the exact path", and 18, as above, where there is none
abbrev pub on_exact : Option Float → Read
on_exact (Some x) = Ok x
on_exact None = Err 21

unfoldable pub read_of : Real → Read
read_of (Ok n) = on_exact (exact_of n.minus n.coefficient n.below n.scale)
read_of (Err _) = Err 18

-- the same with the refusal's reply
abbrev pub replied : Read → Result Float Reply
replied (Ok x) = Ok x
replied (Err n) = Err (reply n 0)

-- the numbers j to j + k − 1, where g says what stands in a number's columns
unfoldable pub reads : (ℕ → Real) → ℕ → ℕ → List Read
reads g j zero = []
reads g j (suc k) = read_of (g j) ∷ reads g (suc j) k

-- what numbers say together, with this place in the answer, after those shown already. "Any other number makes the whole question 21": the first
-- refusal is the whole question's
unfoldable pub whole : ℕ → List Float → List Read → Said Float
whole place xs [] = said 0 place xs
whole place xs (Ok x ∷ rs) = whole place (xs ++ (x ∷ [])) rs
whole place xs (Err n ∷ rs) = refused n 0

-- "a real, a complex pair, or either with its abscissa", by the case's spacing and ordinate type (5 and 6 are complex)
unfoldable pub is_uneven : ℕ → Bool
is_uneven c = eqb (layout_of c).spacing 0

unfoldable pub is_complex : ℕ → Bool
is_complex c = eqb (layout_of c).ordinate 5 || eqb (layout_of c).ordinate 6

unfoldable pub value_kind : ℕ → ℕ
value_kind c = (1 + pick (is_complex c) 1 0) + pick (is_uneven c) 2 0

-- "A value stores its abscissa first where uneven, then its real part, then its imaginary part", and "value i has the numbers ik to
-- ik + k − 1": value i in case c
unfoldable pub value_with : (ℕ → Real) → ℕ → ℕ → Said Float
value_with g c i = whole (value_kind c) [] (reads g (i * numbers_of c) (numbers_of c))

-- how many values a set has: its declared count, which is 0 unless it is a 58; none where its line 7 names no case, as in no accepted file
unfoldable pub values_in : Part → ℕ
values_in p = pick (ltb (part_case p) 8) (count_of p) 0

-- 18 "no such set, .., or not a 58": no set, or an index not below its values
abbrev pub value_from : List ℕ → List Part → ℕ → Said Float
value_from file [] i = refused 18 0
value_from file (p ∷ ps) i =
    pick (ltb i (values_in p)) (value_with (real_in file p) (part_case p) i) (refused 18 0)

-- a value by its set and index
unfoldable pub value_of : List ℕ → ℕ → ℕ → Said Float
value_of file set i = judged_first (judged file) (value_from file (sets_from file set) i)
