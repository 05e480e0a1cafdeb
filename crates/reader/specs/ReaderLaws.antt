-- What the code answers by where a 58's numbers are is the paper's answer.
use Rattle.std.specs.Prelude.{◌≡◌, Bool, Some, None, ◌&&◌, leb, eqb, length}
use Rattle.std.proofs.Math.Path.{refl, sym}
use Rattle.std.proofs.Common.{ap, ◌∙◌, subst, mul-zero, mul-le-mul_left}
use Rattle.std.proofs.Math.Bool.{true, false}
use mathlib.Core.List.{List, [], ◌∷◌}
use Prim.Native.Nat.{ℕ, zero, suc, ◌+◌, ◌*◌, ◌%◌, ◌≤◌, ◌<◌}
use Rattle.std.proofs.Math.Nat.{zero-mul}
use native.Mathlib.Omega.{arith}
use borrow.Author.Tests.{eq-eqb, ne_eqb, lt-ltb, le-ltb, ltb-true, leb-true}
use Rattle.std.proofs.lemmas.Option.{none-some}
use Rattle.std.proofs.Math.Dec.{ltb}
use Rattle.laws.specs.Choice.{pick}
use Rattle.laws.specs.ChoiceLaws.{pick_same, and_left, and_right, false_not_true}
use Rattle.laws.specs.RangesLaws.{in_range}
use Rattle.laws.specs.TableLaws.{agree_below}
use Rattle.layout.specs.Layout.{layouts, layout_of, numbers_of}
use Rattle.real.specs.Real.{Real}
use Rattle.parts.specs.Parts.{Part, is_function, line_start, closing_start}
use Rattle.parts.specs.Function.{part_case, count_of, stored_of}
use Rattle.reader.specs.Reader.{Read}
use Rattle.reader.specs.declared.Data.{Data}
use Rattle.reader.specs.declared.Span.{Span}
use Rattle.reader.specs.Reader.{refused, sets_from, read_in, real_in, shown_of, number_from, reads, whole, is_uneven, is_complex, value_kind, value_with, values_in, value_from}
use Rattle.reader.specs.Find.{data58, data_of, span_of, real_at, read_at, value_at, number_by, value_by}
use Rattle.reader.specs.FindLaws.{stands}
use Rattle.parts.specs.Set.{Somewhere}
use Rattle.reader.specs.SpanLaws.{first_own, past_own}

-- a value has one number, two or three
abbrev few : ℕ → Bool
few c = leb 1 (numbers_of c) && leb (numbers_of c) 3

few_below : (c : ℕ) → c < 8 → few c ≡ true
unfolding numbers_of layout_of layouts
few_below c h = in_range few true 0 8 c refl (omega arith) (omega arith)

numbers_some : (c : ℕ) → c < 8 → 0 < numbers_of c
numbers_some c h = leb-true _ _ (and_left (leb 1 (numbers_of c)) _ (few_below c h))

numbers_most : (c : ℕ) → c < 8 → numbers_of c ≤ 3
numbers_most c h = leb-true _ _ (and_right (leb 1 (numbers_of c)) _ (few_below c h))

-- so that the numbers before value i are few
pub start_most : (i c k : ℕ) → c < 8 → k ≡ numbers_of c → i * k ≤ i * 3
start_most i c k h e = mul-le-mul_left i (rw e (numbers_most c h))

-- the kind by the case's number: uneven cases follow even ones
kind_by : (c : ℕ) → c < 8 → value_kind c ≡ pick (eqb (numbers_of c) 1) 1 (pick (eqb (numbers_of c) 2) (pick (eqb (c % 2) 1) 3 2) 4)
unfolding value_kind is_uneven is_complex numbers_of layout_of layouts
kind_by c h = agree_below value_kind (λ (x : ℕ). pick (eqb (numbers_of x) 1) 1 (pick (eqb (numbers_of x) 2) (pick (eqb (x % 2) 1) 3 2) 4)) 8 c refl h

-- value i by its numbers
module _ (file : List ℕ) (d : Data) (i : ℕ) (h : d.case < 8) (k : ℕ) (e : k ≡ numbers_of d.case) where
  value_of : (n : ℕ) → k ≡ n → value_at file d i ≡ whole (value_kind d.case) [] (reads (real_at file d) (i * n) n)
  unfolding value_at value_with
  value_of n q = rw (sym e ∙ q) refl

  pub value_one : (a : Read) → k ≡ 1 → a ≡ read_at file d (i * k) → whole 1 [] (a ∷ []) ≡ value_at file d i
  unfolding reads read_at
  value_one a q f =
      let z : value_kind d.case ≡ 1 = kind_by d.case h ∙ rw (eq-eqb (numbers_of d.case) 1 (sym e ∙ q)) refl in
      sym (value_of 1 q ∙ rw (z, f, q) refl)

  pub value_two : (a b : Read) → (k ≡ 1 → ⊥) → k ≡ 2 → a ≡ read_at file d (i * k) → b ≡ read_at file d (i * k + 1)
      → whole (pick (eqb (d.case % 2) 1) 3 2) [] (a ∷ b ∷ []) ≡ value_at file d i
  unfolding reads read_at
  value_two a b o q f g =
      let z : value_kind d.case ≡ pick (eqb (d.case % 2) 1) 3 2 = kind_by d.case h ∙ rw (ne_eqb (numbers_of d.case) 1 (λ w. o (e ∙ w)), eq-eqb (numbers_of d.case) 2 (sym e ∙ q)) refl in
      let w : i * 2 + 1 ≡ suc (i * 2) = omega arith in
      sym (value_of 2 q ∙ rw (z, f, g, q, w) refl)

  pub value_three : (a b c : Read) → (k ≡ 1 → ⊥) → (k ≡ 2 → ⊥) → a ≡ read_at file d (i * k) → b ≡ read_at file d (i * k + 1) → c ≡ read_at file d (i * k + 2)
      → whole 4 [] (a ∷ b ∷ c ∷ []) ≡ value_at file d i
  unfolding reads read_at
  value_three a b c o t f g m =
      let z : value_kind d.case ≡ 4 = kind_by d.case h ∙ rw (ne_eqb (numbers_of d.case) 1 (λ w. o (e ∙ w)), ne_eqb (numbers_of d.case) 2 (λ w. t (e ∙ w))) refl in
      let q : k ≡ 3 = omega (arith, numbers_some d.case h, numbers_most d.case h) in
      let w : i * 3 + 1 ≡ suc (i * 3) = omega arith in
      let x : i * 3 + 2 ≡ suc (suc (i * 3)) = omega arith in
      sym (value_of 3 q ∙ rw (z, f, g, m, q, w, x) refl)

-- a set that is no 58, or has none of the eight cases, has no numbers
stored_none : (p : Part) → is_function p && ltb (part_case p) 8 ≡ false → stored_of p ≡ 0
unfolding stored_of count_of numbers_of
stored_none p e = go (is_function p) (ltb (part_case p) 8) refl refl e
  where
    go : (s t : Bool) → is_function p ≡ s → ltb (part_case p) 8 ≡ t → s && t ≡ false → stored_of p ≡ 0
    go true true f g h = false_not_true (sym h)
    go true false f g h = rw (g, mul-zero) refl
    go false t f g h = rw (f, zero-mul) refl

pub values_none : (p : Part) → is_function p && ltb (part_case p) 8 ≡ false → values_in p ≡ 0
unfolding values_in count_of
values_none p e = go (is_function p) (ltb (part_case p) 8) refl refl e
  where
    go : (s t : Bool) → is_function p ≡ s → ltb (part_case p) 8 ≡ t → s && t ≡ false → values_in p ≡ 0
    go true true f g h = false_not_true (sym h)
    go true false f g h = rw g refl
    go false t f g h = rw f (pick_same (ltb (part_case p) 8) 0)

-- numbers by two accounts that agree on them
pub reads_same : (g f : ℕ → Real) (i j k : ℕ) → ((r : ℕ) → r < k → g (i + r) ≡ f (j + r)) → reads g i k ≡ reads f j k
unfolding reads
reads_same g f i j zero h = refl
reads_same g f i j (suc k) h =
    let a : g i ≡ f j = sum_zero i j (h 0 (omega arith)) in
    rw (a, reads_same g f (suc i) (suc j) k (λ r l. sum_next i j r (h (suc r) (omega arith)))) refl
  where
    sum_zero : (i j : ℕ) → g (i + 0) ≡ f (j + 0) → g i ≡ f j
    sum_zero i j e = let p : i + 0 ≡ i = omega arith in let q : j + 0 ≡ j = omega arith in rw (p, q) at e

    sum_next : (i j r : ℕ) → g (i + suc r) ≡ f (j + suc r) → g (suc i + r) ≡ f (suc j + r)
    sum_next i j r e = let p : i + suc r ≡ suc i + r = omega arith in let q : j + suc r ≡ suc j + r = omega arith in rw (p, q) at e

module _ (file : List ℕ) (p : Part) (ps : List Part) (s : Somewhere file p ps) where
  abbrev pub own : Data
  own = data58 (line_start p 0) (closing_start p) (part_case p) (count_of p)

  pub real_own : (j : ℕ) → real_at file own j ≡ real_in file p j
  real_own j =
      rw (first_own file s.before s.from p ps s.stands (count_of p) j, past_own file s.before s.from p ps s.stands (count_of p) j) refl

  number_own : is_function p && ltb (part_case p) 8 ≡ true → (j : ℕ) → number_by file own j ≡ number_from file (p ∷ ps) j
  unfolding number_by stored_of
  number_own e j =
      rw (first_own file s.before s.from p ps s.stands (count_of p) j, past_own file s.before s.from p ps s.stands (count_of p) j) refl

  value_own : is_function p && ltb (part_case p) 8 ≡ true → (i : ℕ) → value_by file own i ≡ value_from file (p ∷ ps) i
  unfolding value_by value_at value_with values_in
  value_own e i =
      let n : ℕ = numbers_of (part_case p) in
      rw (and_right (is_function p) (ltb (part_case p) 8) e, reads_same (real_at file own) (real_in file p) (i * n) (i * n) n (λ r l. real_own (i * n + r))) refl

  inside_own : is_function p && ltb (part_case p) 8 ≡ true → (own.body ≤ length file) × (own.case < 8)
  inside_own e = (s.stands.inside, ltb-true _ _ (and_right (is_function p) (ltb (part_case p) 8) e))

-- where the first is no 58 of one of the eight cases
module _ (file : List ℕ) where
  pub no_data_number : (sets : List Part) → None ≡ data_of sets → (j : ℕ) → refused 18 0 ≡ number_from file sets j
  unfolding data_of
  no_data_number [] q j = refl
  no_data_number (p ∷ ps) q j = by (is_function p && ltb (part_case p) 8) refl q
    where
      by : (t : Bool) → is_function p && ltb (part_case p) 8 ≡ t → None ≡ pick t (Some (data58 (line_start p 0) (closing_start p) (part_case p) (count_of p))) None
          → refused 18 0 ≡ number_from file (p ∷ ps) j
      by true e q = absurd (none-some _ q)
      by false e q = sym (rw (stored_none p e, le-ltb j 0 (omega arith)) refl)

  pub no_data_value : (sets : List Part) → None ≡ data_of sets → (i : ℕ) → refused 18 0 ≡ value_from file sets i
  unfolding data_of
  no_data_value [] q i = refl
  no_data_value (p ∷ ps) q i = by (is_function p && ltb (part_case p) 8) refl q
    where
      by : (t : Bool) → is_function p && ltb (part_case p) 8 ≡ t → None ≡ pick t (Some (data58 (line_start p 0) (closing_start p) (part_case p) (count_of p))) None
          → refused 18 0 ≡ value_from file (p ∷ ps) i
      by true e q = absurd (none-some _ q)
      by false e q = sym (rw (values_none p e, le-ltb i 0 (omega arith)) refl)

-- where numbers are found, they are those of a 58 of one of the eight cases
pub record Owned (sets : List Part) (d : Data) : Type 0 where
  pub part : Part
  pub others : List Part
  pub first : sets ≡ part ∷ others
  pub eight : is_function part && ltb (part_case part) 8 ≡ true
  pub own : d ≡ data58 (line_start part 0) (closing_start part) (part_case part) (count_of part)

pub data_owned : (sets : List Part) (d : Data) → Some d ≡ data_of sets → Owned sets d
unfolding data_of
data_owned [] d q = absurd (none-some _ (sym q))
data_owned (p ∷ ps) d q = by (is_function p && ltb (part_case p) 8) refl q
  where
    by : (t : Bool) → is_function p && ltb (part_case p) 8 ≡ t → Some d ≡ pick t (Some (data58 (line_start p 0) (closing_start p) (part_case p) (count_of p))) None → Owned (p ∷ ps) d
    by true e q = record { part = p; others = ps; first = refl; eight = e; own = cc }
    by false e q = absurd (none-some _ (sym q))

module _ (file : List ℕ) (set : ℕ) where
  module _ (d : Data) (q : Some d ≡ data_of (sets_from file set)) where
    abbrev f : Owned (sets_from file set) d
    f = data_owned (sets_from file set) d q

    abbrev w : Somewhere file f.part f.others
    w = stands file set f.part f.others f.first

    pub data_inside : (d.body ≤ length file) × (d.case < 8)
    data_inside = subst (λ (x : Data). (x.body ≤ length file) × (x.case < 8)) (sym f.own) (inside_own file f.part f.others w f.eight)

    number_from_lem : (j : ℕ) → number_by file d j ≡ number_from file (sets_from file set) j
    number_from_lem j =
        ap (λ (x : Data). number_by file x j) f.own ∙ number_own file f.part f.others w f.eight j ∙ ap (λ (x : List Part). number_from file x j) (sym f.first)

    value_from_lem : (i : ℕ) → value_by file d i ≡ value_from file (sets_from file set) i
    value_from_lem i =
        ap (λ (x : Data). value_by file x i) f.own ∙ value_own file f.part f.others w f.eight i ∙ ap (λ (x : List Part). value_from file x i) (sym f.first)

    -- no such number
    pub number_none : (j n : ℕ) → n ≡ numbers_of d.case → d.count * n ≤ j → refused 18 0 ≡ number_from file (sets_from file set) j
    unfolding number_by
    number_none j n e h = sym (rw (← e, le-ltb j (d.count * n) h) refl) ∙ number_from_lem j

    -- a number, by its columns and what stands there
    pub number_shown_lem : (j n : ℕ) (s : Span) (r : Real) → n ≡ numbers_of d.case → j < d.count * n → s ≡ span_of file d j → r ≡ read_in file s.first s.past
        → shown_of s.first s.past r ≡ number_from file (sets_from file set) j
    unfolding number_by
    number_shown_lem j n s r e h f g = rw (g, f) (sym (rw (← e, lt-ltb j (d.count * n) h) refl) ∙ number_from_lem j)

    -- no such value
    pub value_none : (i : ℕ) → d.count ≤ i → refused 18 0 ≡ value_from file (sets_from file set) i
    unfolding value_by
    value_none i h = sym (rw (le-ltb i d.count h) refl) ∙ value_from_lem i

    pub value_shown : (i : ℕ) → i < d.count → value_at file d i ≡ value_from file (sets_from file set) i
    unfolding value_by
    value_shown i h = sym (rw (lt-ltb i d.count h) refl) ∙ value_from_lem i
