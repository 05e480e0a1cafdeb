-- How a FORMAT text is read (02, C-15). `ReadingLaws` proves that it agrees with the grammar of `Format`.
use Rattle.std.specs.Prelude.{Bool, true, false, ◌&&◌, ◌||◌, List, [], ◌∷◌, ℕ, zero, suc, ◌+◌, ◌-◌, ◌*◌, leb, ltb, eqb, length, take, drop, get_or}
use Rattle.laws.specs.Choice.{pick}
use Rattle.laws.specs.Run.{run}
use Rattle.text.specs.Parts.{is_digit}
use Rattle.format.specs.Format.{Kind, skip, text, integer, real, Field, Count, once, times, Format, plain, group, join, fields_of, columns, groups, unblanked}

-- one or the other, of which only the one asked for is worked out
abbrev pub choose : {A : Type 0} → Bool → (Unit {0} → A) → (Unit {0} → A) → A
choose true x y = x tt
choose false x y = y tt

-- how many digits stand first
unfoldable pub digits_before : List ℕ → ℕ
digits_before [] = 0
digits_before (b ∷ bs) = pick (is_digit b) (suc (digits_before bs)) 0

unfoldable pub with_digit : ℕ → ℕ → ℕ
with_digit m b = m * 10 + (b - 48)

-- a number and how many bytes it takes; 0 and 0 where there is none
pub record Number : Type 0 where
  pub value : ℕ
  pub used : ℕ

abbrev pub numbered : ℕ → ℕ → Number
numbered v k = record { value = v; used = k }

-- the number of k digits that stand first, none with a leading zero
unfoldable pub number_in : ℕ → List ℕ → Number
number_in k l = pick (eqb k 0) (numbered 0 0) (pick (eqb (get_or l 0 0) 48 && ltb 1 k) (numbered 0 0) (numbered (run with_digit 0 (take k l)) k))

unfoldable pub number_of : List ℕ → Number
number_of l = number_in (digits_before l) l

-- a count, left out or written, and its bytes
pub data Counting : Type 0 where
  none : Counting
  some : Count → ℕ → Counting

unfoldable pub count_of : List ℕ → Counting
count_of l = pick (is_digit (get_or l 0 0)) (pick (eqb (number_of l).value 0) none (some (times (number_of l).value) (number_of l).used)) (some once 0)

-- an item without brackets, and the byte before which it ends
pub data Leaf : Type 0 where
  none : Leaf
  some : Count → Kind → ℕ → ℕ → Leaf

-- an item's width from byte at on
unfoldable pub width_of : Count → Kind → ℕ → List ℕ → Leaf
width_of c k at l = pick (leb 1 (number_of (drop at l)).value && leb (number_of (drop at l)).value 80) (some c k (number_of (drop at l)).value (at + (number_of (drop at l)).used)) none

-- the decimals of an item of width w, from byte at on
unfoldable pub decimals_of : Count → ℕ → ℕ → List ℕ → Leaf
decimals_of c w at l = pick (ltb 0 (number_of (drop at l)).used && leb (number_of (drop at l)).value w) (some c real w (at + (number_of (drop at l)).used)) none

unfoldable pub pointed : Leaf → List ℕ → Leaf
pointed none l = none
pointed (some c k w at) l = pick (eqb (get_or l at 0) 46) (decimals_of c w (at + 1) l) none

-- a real with its letter at byte at
unfoldable pub real_of : Count → ℕ → List ℕ → Leaf
real_of c at l = pick (eqb (get_or l at 0) 69 || eqb (get_or l at 0) 68) (pointed (width_of c real (at + 1) l) l) none

-- what follows 1P
unfoldable pub scaled_of : Counting → ℕ → List ℕ → Leaf
scaled_of none at l = none
scaled_of (some c k) at l = real_of c (at + k) l

unfoldable pub is_one : Count → Bool
is_one once = false
is_one (times n) = eqb n 1

-- an item whose count ends before byte at
unfoldable pub leaf_of : Count → ℕ → List ℕ → Leaf
leaf_of c at l =
    pick (eqb (get_or l at 0) 88) (some c skip 1 (at + 1))
    (pick (eqb (get_or l at 0) 73) (width_of c integer (at + 1) l)
    (pick (eqb (get_or l at 0) 65) (width_of c text (at + 1) l)
    (pick (eqb (get_or l at 0) 80) (pick (is_one c) (scaled_of (count_of (drop (at + 1) l)) (at + 1) l) none)
    (real_of c at l))))

-- a format and the byte before which it ends
pub data Parsed : Type 0 where
  none : Parsed
  some : Format → ℕ → Parsed

unfoldable pub leaf : Leaf → Parsed
leaf none = none
leaf (some c k w at) = some (plain c k w) at

-- the bracket that closes a group
unfoldable pub closed : Count → List ℕ → Parsed → Parsed
closed c l none = none
closed c l (some t at) = pick (eqb (get_or l at 0) 41) (some (group c t) (at + 1)) none

-- a list after the item t and its comma
unfoldable pub joined : Format → Parsed → Parsed
joined t none = none
joined t (some u at) = some (join t u) at

-- an item from byte at on by its count, and a list by its first item; the list that begins at a byte is given
unfoldable pub item_after : List ℕ → ℕ → Counting → (ℕ → Parsed) → Parsed
item_after l at none lists = none
item_after l at (some c k) lists = choose (eqb (get_or l (at + k) 0) 40) (λ _. closed c l (lists (at + k + 1))) (λ _. leaf (leaf_of c (at + k) l))

unfoldable pub list_after : List ℕ → Parsed → (ℕ → Parsed) → Parsed
list_after l none lists = none
list_after l (some t at) lists = choose (eqb (get_or l at 0) 44) (λ _. joined t (lists (at + 1))) (λ _. some t at)

-- "an item may be a list, and a list is made of items": from byte at on, an item of at most n bytes, and a list of fewer
unfoldable mutual
  pub item_of : ℕ → List ℕ → ℕ → Parsed
  item_of zero l at = none
  item_of (suc n) l at = item_after l at (count_of (drop at l)) (λ k. list_of n l k)

  pub list_of : ℕ → List ℕ → ℕ → Parsed
  list_of zero l at = none
  list_of (suc n) l at = list_after l (item_of n l at) (λ k. list_of n l k)

-- "Refusals: 26, text malformed or too long; then 27, deeper than three or over 80 columns"
pub data Reading : Type 0 where
  malformed : Reading
  too_large : Reading
  fields : List Field → Reading

unfoldable pub fitting : Format → Reading
fitting t = choose (leb (groups t) 3 && leb (columns t) 80) (λ _. fields (fields_of t)) (λ _. too_large)

-- a list that takes all n bytes
unfoldable pub whole_of : ℕ → Parsed → Reading
whole_of n none = malformed
whole_of n (some t k) = choose (eqb k n) (λ _. fitting t) (λ _. malformed)

unfoldable pub packed_reading : List ℕ → Reading
packed_reading l = whole_of (length l) (list_of (length l + 1) l 0)

unfoldable pub reading_of : List ℕ → Reading
reading_of bytes = choose (leb (length bytes) 120) (λ _. packed_reading (unblanked bytes)) (λ _. malformed)
