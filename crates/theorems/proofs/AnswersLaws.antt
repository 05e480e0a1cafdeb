-- The reader answers from the list.
use Rattle.std.specs.Prelude.{◌≡◌, List, [], ◌∷◌, ℕ, ◌+◌, ◌-◌, ◌*◌, ◌<◌, ◌≤◌, ltb, Float, length, take, drop, Ok}
use Rattle.std.proofs.Math.Path.{refl}
use Rattle.std.proofs.Common.{sym, ap, ◌∙◌, zero-mul, arith}
use borrow.Author.Tests.{lt-ltb, le-ltb, le-leb, ne_eqb}
use Rattle.laws.specs.ChoiceLaws.{pick_same}
use Rattle.real.specs.Real.{Real}
use Rattle.real.specs.Real as Real
use Rattle.real.proofs.RealLaws.{real_of_complete}
use Rattle.real.specs.EndLaws.{signed_size}
use Rattle.real.specs.declared.Number.{Number}
use Rattle.text.specs.Parts.{signed}
use Rattle.field.specs.Item.{Item}
use Rattle.layout.specs.Layout.{numbers_of}
use Rattle.judge.specs.Judge.{judged}
use Rattle.parts.specs.Parts as Parts
use Rattle.parts.specs.Function as Function
use Rattle.parts.specs.Set.{Somewhere}
use Rattle.reader.specs.Reader.{said, refused, read_in, real_in, shown_of, number_from, sets_from, stored_number, whole, value_kind, value_with, values_in, value_from, value_of}
use Rattle.reader.specs.ReaderLaws.{reads_same}
use Rattle.theory.specs.Sets.{Set}
use Rattle.parts_laws.specs.Holds.{Holds}
use Rattle.parts_laws.specs.Declares.{declared, set_case}
use Rattle.parts_laws.specs.DeclaresLaws.{declared_held, case_held}
use Rattle.parts_laws.specs.Stored.{stored_count, stored_item}
use Rattle.parts_laws.specs.CaseLaws.{case_eight, declared_some}
use Rattle.parts_laws.specs.Field.{Spelled}
use Rattle.parts_laws.proofs.ShownLaws.{stored_shown}
use Rattle.parts_laws.specs.PaddingLaws.{stored_held}
use Rattle.parts_laws.proofs.OrderLaws.{past_within}
use Rattle.values.specs.Values.{all_from, all_values}
use Rattle.values.specs.Each.{Each}
use Rattle.values.specs.EachLaws.{all_each, all_refused}
use Rattle.theorems.specs.Answers.{real_of_item, value_said, all_said, own_bytes}
use Rattle.theorems.proofs.ColumnsLaws.{value_number}

-- a 58 of the list as it stands in a text
module _ {s : Set} {p : Parts.Part} (bytes : List ℕ) (ps : List Parts.Part) (w : Somewhere bytes p ps) (h : Holds s p) (e : s.number ≡ 58) where
  -- what stands in a stored number's columns
  pub real_in_held : (j : ℕ) → j < stored_count s → real_in bytes p j ≡ real_of_item (stored_item s j)
  unfolding read_in
  real_in_held j l =
      let x : Spelled (stored_item s j) (take (Function.past_byte p j - Function.first_byte p j) (drop (Function.first_byte p j) bytes)) = stored_shown bytes ps w h e j l in
      rw (le-leb (Function.past_byte p j) (length bytes) (past_within bytes ps w h e j l), real_of_complete x.spelling, x.item) refl

  -- its answer, by index
  pub number_answered : (j : ℕ) → j < stored_count s → number_from bytes (p ∷ ps) j ≡ shown_of (Function.first_byte p j) (Function.past_byte p j) (real_of_item (stored_item s j))
  number_answered j l =
      let m : j < Function.stored_of p = rw (stored_held h) l in
      rw (lt-ltb j (Function.stored_of p) m, real_in_held j l) refl

  pub number_past : (j : ℕ) → stored_count s ≤ j → number_from bytes (p ∷ ps) j ≡ refused 18 0
  number_past j l = let m : Function.stored_of p ≤ j = rw (stored_held h) l in rw (le-ltb j (Function.stored_of p) m) refl

  -- as many values as the list declares
  pub values_held : values_in p ≡ declared s
  unfolding values_in
  values_held = rw (case_held h e, lt-ltb (set_case s) 8 (case_eight h.lines e)) (declared_held h)

  -- the numbers of a value are stored numbers
  pub value_stored : (i r : ℕ) → i < declared s → r < numbers_of (set_case s) → i * numbers_of (set_case s) + r < stored_count s
  unfolding stored_count
  value_stored i r l m = value_number i r (numbers_of (set_case s)) (declared s) l m

  -- a value's answer, by index
  pub value_answered : (i : ℕ) → i < declared s → value_from bytes (p ∷ ps) i ≡ value_said s i
  unfolding value_said value_with
  value_answered i l =
      let m : i < values_in p = rw values_held l in
      rw (lt-ltb i (values_in p) m, case_held h e)
      (ap (whole (value_kind (set_case s)) [])
      (reads_same (real_in bytes p) (λ (j : ℕ). real_of_item (stored_item s j)) (i * numbers_of (set_case s)) (i * numbers_of (set_case s)) (numbers_of (set_case s))
      (λ r q. real_in_held (i * numbers_of (set_case s) + r) (value_stored i r l q))))

  pub value_past : (i : ℕ) → declared s ≤ i → value_from bytes (p ∷ ps) i ≡ refused 18 0
  value_past i l = let m : values_in p ≤ i = rw values_held l in rw (le-ltb i (values_in p) m) refl

  -- all of them at once
  pub all_by_list : all_from bytes (p ∷ ps) ≡ all_said s
  unfolding all_said
  all_by_list =
      let m : 0 < values_in p = rw values_held (declared_some h.lines e) in
      rw (lt-ltb 0 (values_in p) m, stored_held h)
      (ap (whole (stored_count s) []) (reads_same (real_in bytes p) (λ (j : ℕ). real_of_item (stored_item s j)) 0 0 (stored_count s) (λ r q. real_in_held (0 + r) (omega arith))))

-- an accepted file's questions go to its sets
pub number_asked : (bytes : List ℕ) (k j : ℕ) → (judged bytes).number ≡ 0 → stored_number bytes k j ≡ number_from bytes (sets_from bytes k) j
unfolding stored_number
number_asked bytes k j h = rw (le-ltb 0 (judged bytes).number (omega arith)) refl

pub value_asked : (bytes : List ℕ) (k i : ℕ) → (judged bytes).number ≡ 0 → value_of bytes k i ≡ value_from bytes (sets_from bytes k) i
unfolding value_of
value_asked bytes k i h = rw (le-ltb 0 (judged bytes).number (omega arith)) refl

pub all_asked : (bytes : List ℕ) (k : ℕ) → (judged bytes).number ≡ 0 → all_values bytes k ≡ all_from bytes (sets_from bytes k)
unfolding all_values
all_asked bytes k h = rw (le-ltb 0 (judged bytes).number (omega arith)) refl

-- what stands in a number's columns, by their bytes
pub real_in_own : (bytes : List ℕ) (p : Parts.Part) (j : ℕ) → Function.past_byte p j ≤ length bytes → real_in bytes p j ≡ Real.real_of (own_bytes bytes p j)
unfolding read_in own_bytes
real_in_own bytes p j h = rw (le-leb (Function.past_byte p j) (length bytes) h) refl

-- a set that is no 58 has no numbers
module _ {s : Set} {p : Parts.Part} (bytes : List ℕ) (ps : List Parts.Part) (h : Holds s p) (n : s.number ≡ 58 → ⊥) where
  no_count : Function.count_of p ≡ 0
  unfolding declared
  no_count = declared_held h ∙ rw (ne_eqb s.number 58 n) refl

  no_stored : Function.stored_of p ≡ 0
  unfolding Function.stored_of
  no_stored = rw no_count (zero-mul _)

  no_values : values_in p ≡ 0
  unfolding values_in
  no_values = rw no_count (pick_same (ltb (Function.part_case p) 8) 0)

  pub number_other : (j : ℕ) → number_from bytes (p ∷ ps) j ≡ refused 18 0
  number_other j = rw (le-ltb j (Function.stored_of p) (omega (arith, no_stored))) refl

  pub value_other : (i : ℕ) → value_from bytes (p ∷ ps) i ≡ refused 18 0
  value_other i = rw (le-ltb i (values_in p) (omega (arith, no_values))) refl

  pub all_other : all_from bytes (p ∷ ps) ≡ refused 18 0
  all_other = rw no_values refl

-- a value's answer, by the bytes of its own columns
pub value_own : {s : Set} {p : Parts.Part} (bytes : List ℕ) (ps : List Parts.Part) → Somewhere bytes p ps → Holds s p → s.number ≡ 58 → (i : ℕ) → i < declared s
    → value_from bytes (p ∷ ps) i ≡ value_with (λ (j : ℕ). Real.real_of (own_bytes bytes p j)) (set_case s) i
unfolding value_with
value_own {s} {p} bytes ps w h e i l =
    let m : i < values_in p = rw (values_held bytes ps w h e) l in
    rw (lt-ltb i (values_in p) m, case_held h e)
    (ap (whole (value_kind (set_case s)) []) (reads_same (real_in bytes p) (λ (j : ℕ). Real.real_of (own_bytes bytes p j)) (i * numbers_of (set_case s)) (i * numbers_of (set_case s)) (numbers_of (set_case s))
    (λ r q. real_in_own bytes p (i * numbers_of (set_case s) + r) (past_within bytes ps w h e (i * numbers_of (set_case s) + r) (value_stored bytes ps w h e i r l q)))))

-- values by two accounts that agree on their numbers
pub value_with_same : (g f : ℕ → Real) (c i j : ℕ) → ((r : ℕ) → r < numbers_of c → g (i * numbers_of c + r) ≡ f (j * numbers_of c + r)) → value_with g c i ≡ value_with f c j
unfolding value_with
value_with_same g f c i j h = ap (whole (value_kind c) []) (reads_same g f (i * numbers_of c) (j * numbers_of c) (numbers_of c) h)

-- a number's item, by the bytes of its own columns
pub item_own : {s : Set} {p : Parts.Part} (bytes : List ℕ) (ps : List Parts.Part) → Somewhere bytes p ps → Holds s p → s.number ≡ 58 → (j : ℕ) → j < stored_count s
    → (Spelled (stored_item s j) (own_bytes bytes p j)) × (real_of_item (stored_item s j) ≡ Real.real_of (own_bytes bytes p j))
unfolding own_bytes
item_own bytes ps w h e j l = let x = stored_shown bytes ps w h e j l in (x, rw (x.item, real_of_complete x.spelling) refl)

-- two reals that are one number are one item
pub real_same : (i j : Item) (cols cols' : List ℕ) → Spelled i cols → Spelled j cols' → real_of_item i ≡ real_of_item j → i ≡ j
real_same i j cols cols' x y e =
    let q : ◌≡◌ {A = Real} (Ok (Real.number_of x.minus x.coefficient x.scale)) (Ok (Real.number_of y.minus y.coefficient y.scale)) = ap real_of_item (sym x.item) ∙ e ∙ ap real_of_item y.item in
    let v : Real.number_of x.minus x.coefficient x.scale ≡ Real.number_of y.minus y.coefficient y.scale = cc in
    let a : x.minus ≡ y.minus = ap (λ (n : Number). n.minus) v in
    let b : x.coefficient ≡ y.coefficient = ap (λ (n : Number). n.coefficient) v in
    let c : x.scale ≡ y.scale = sym (signed_size x.scale) ∙ ap (λ (n : Number). signed n.below n.scale) v ∙ signed_size y.scale in
    x.item ∙ rw (a, b, c) (sym y.item)

-- all values of a 58 of the list are its values in turn
module _ (s : Set) where
  abbrev number : ℕ → Real
  number j = real_of_item (stored_item s j)

  pub said_each : (n : ℕ) (xs : List Float) → all_said s ≡ said 0 n xs → Each number (set_case s) (declared s) n xs
  unfolding all_said stored_count
  said_each n xs e = all_each number (set_case s) (declared s) n xs e

  pub said_refused : (m p : ℕ) → 0 < m → all_said s ≡ refused m p → (i : ℕ) × ((i < declared s) × (value_said s i ≡ refused m p))
  unfolding all_said stored_count value_said
  said_refused m p h e = all_refused number (set_case s) (declared s) m p h e
