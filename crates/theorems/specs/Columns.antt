-- The own columns of the values of a 58 in a text (01, "Demand 3", and the demand itself: "the declared count of values is there, each in its own
-- columns, in order, not overlapping, inside the set's delimiters", and every non-blank byte of the data lines in exactly one of them, or, 02, C-13, "to padding").
use Rattle.std.specs.Prelude.{◌≡◌, List, ℕ, ◌+◌, ◌*◌, ◌<◌, ◌≤◌, get_or}
use Rattle.layout.specs.Layout.{numbers_of}
use Rattle.theory.specs.Sets.{Set}
use Rattle.parts.specs.Parts.{Part, closing_start}
use Rattle.parts.specs.Function.{part_case, count_of, data_start, first_byte, past_byte}
use Rattle.parts.specs.Padding.{padding_of}
use Rattle.parts_laws.specs.Declares.{declared, set_case}
use Rattle.parts_laws.specs.Stored.{stored_count, stored_item}
use Rattle.parts_laws.specs.Field.{Spelled}
use Rattle.theorems.specs.Answers.{own_bytes}

-- a 58 of the list, and the part of the text that it is
pub record Columns (bytes : List ℕ) (s : Set) (q : Part) : Type 0 where
  -- the count and the case that the text's line 7 declares are the list's: a value at least, and one of the eight cases, by which columns are counted
  pub count : count_of q ≡ declared s
  pub some : 1 ≤ declared s
  pub case : part_case q ≡ set_case s
  pub eight : set_case s < 8
  -- the values are there: the bytes of each stored number's own columns spell the list's item
  pub spelled : (j : ℕ) → j < stored_count s → Spelled (stored_item s j) (own_bytes bytes q j)
  -- some columns each, those of padding numbers too, in the data lines, which the first number's columns begin, between the delimiters
  pub begins : first_byte q 0 ≡ data_start q
  pub inside : (j : ℕ) → j < stored_count s + padding_of q → (data_start q ≤ first_byte q j) × ((first_byte q j < past_byte q j) × (past_byte q j ≤ closing_start q))
  -- in order, and apart
  pub apart : (i j : ℕ) → i < j → j < stored_count s + padding_of q → past_byte q i ≤ first_byte q j

-- byte x is one of the data lines, and no blank, LF or CR
pub record DataByte (bytes : List ℕ) (q : Part) (x : ℕ) : Type 0 where
  pub from : data_start q ≤ x
  pub past : x < closing_start q
  pub no_blank : get_or bytes x 0 ≡ 32 → ⊥
  pub no_lf : get_or bytes x 0 ≡ 10 → ⊥
  pub no_cr : get_or bytes x 0 ≡ 13 → ⊥

-- byte x lies in the own columns of stored number j
pub record Within (p : Part) (j x : ℕ) : Type 0 where
  pub from : first_byte p j ≤ x
  pub past : x < past_byte p j

-- byte x lies in the own columns of a number of a value: "value i has the numbers ik to ik + k − 1"
pub record OfValue (s : Set) (p : Part) (x : ℕ) : Type 0 where
  pub value : ℕ
  pub some : value < declared s
  pub number : ℕ
  pub few : number < numbers_of (set_case s)
  pub within : Within p (value * numbers_of (set_case s) + number) x

-- of one value, and of no other
pub record OfOneValue (s : Set) (p : Part) (x : ℕ) : Type 0 where
  pub of : OfValue s p x
  pub only : (other : OfValue s p x) → other.value ≡ of.value

-- byte x lies in the columns of a padding number: of a field past the stored numbers, of which there are as many as the lister's seventh says
pub record OfPadding (s : Set) (p : Part) (x : ℕ) : Type 0 where
  pub number : ℕ
  pub from : stored_count s ≤ number
  pub below : number < stored_count s + padding_of p
  pub within : Within p number x

-- 02, C-13: "a non-blank data byte belongs to one value or to padding", and never to both
pub data Belongs (s : Set) (p : Part) (x : ℕ) : Type 0 where
  to_value : OfOneValue s p x → (OfPadding s p x → ⊥) → Belongs s p x
  to_padding : OfPadding s p x → (OfValue s p x → ⊥) → Belongs s p x
