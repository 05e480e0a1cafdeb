-- What the code keeps agrees with the reading: numbers past their bounds alike.
use Rattle.std.specs.Prelude.{◌≡◌, Bool, ◌&&◌, ◌||◌, List, [], ◌∷◌, ℕ, zero, suc, ◌+◌, ◌*◌, ◌≤◌, ◌<◌, min, max, leb, length, take, drop, get_or, Option, Some, None, option_and_then, option_map}
use Rattle.std.proofs.Math.Path.{refl, ap}
use Rattle.std.proofs.Common.{sym, ◌∙◌, mul-le-mul, get_or-drop, drop_of_length-le}
use Rattle.std.proofs.Math.Bool.{true, false}
use native.Mathlib.Omega.{arith}
use borrow.Author.Tests.{ltb-true, ltb-false, leb-true, leb-false, eqb-true, eqb-false, lt-ltb, le-ltb, lt-leb, eq-eqb, ne_eqb}
use Rattle.std.proofs.Math.Dec.{ltb, eqb}
use Rattle.laws.specs.Choice.{pick}
use Rattle.laws.specs.Run.{run}
use Rattle.text.specs.Parts.{is_digit}
use Rattle.format.specs.Format.{Kind, skip, text, integer, real, Count, once, times, number, Format, group, join, depth, groups, columns}
use Rattle.format.specs.Reading.{Number, digits_before, number_in, number_of, count_of, Counting, Leaf, Parsed, none, some, with_digit, width_of, decimals_of, pointed, real_of, scaled_of, is_one, leaf_of, leaf, closed, joined}
use Rattle.format.specs.NumberLaws.{number_some}
use Rattle.format.specs.LeafLaws.{width_most}
use Rattle.format.specs.Laid.{kind_in}
use Rattle.format.specs.Measured.{capped, deeper, kept_digit, figure_of, figure_at, is_bare, a_tally, found, tally_at, leaf_in, a_leaf, figure, sized_by, sized_leaf, decimals_by, decimals_leaf, real_leaf, scaled_by, scaled_leaf, plain_leaf, a_measure, measured, measured_leaf, group_depth, closed_measure, joined_measure}
use Rattle.format.specs.declared.Kind as own
use Rattle.format.specs.declared.Kind.TheVariants.{Skip, Text, Integer}
use Rattle.format.specs.declared.Figure.{Figure}
use Rattle.format.specs.declared.Tally.{Tally}
use Rattle.format.specs.declared.Leaf as code
use Rattle.format.specs.declared.Measure.{Measure}

-- a written count as the code keeps it
abbrev pub written_tally : Figure → Option Tally
written_tally n = pick (eqb n.value 0) None (Some (a_tally false n.value n.at))

pub product_is : (a b x y : ℕ) → x ≡ a → y ≡ b → capped (x * y) ≡ capped (a * b)
product_is a b x y p q = rw (p, q) refl

pub sum_is : (a b x y : ℕ) → x ≡ a → y ≡ b → capped (x + y) ≡ capped (a + b)
sum_is a b x y p q = rw (p, q) refl

-- Numbers.

kept_digit_capped : (m b : ℕ) → kept_digit (capped m) b ≡ capped (with_digit m b)
unfolding kept_digit with_digit
kept_digit_capped m b = omega arith

run_capped : (l : List ℕ) (m : ℕ) → run kept_digit (capped m) l ≡ capped (run with_digit m l)
unfolding run
run_capped [] m = refl
run_capped (b ∷ l) m = ap (λ (x : ℕ). run kept_digit x l) (kept_digit_capped m b) ∙ run_capped l (with_digit m b)

pub figure_past : (l : List ℕ) (at : ℕ) → (at ≤ length l → ⊥) → None ≡ figure at l
unfolding figure_at number_of number_in digits_before
figure_past l at h =
    let past : length l ≤ at = omega arith in
    rw (drop_of_length-le l past) refl

module _ (l : List ℕ) (at n : ℕ) (all : n ≡ digits_before (drop at l)) where
  pub figure_none : n ≡ 0 → None ≡ figure at l
  unfolding figure_at number_of number_in
  figure_none z = rw (← all, z) refl

  module _ (some-there : n ≡ 0 → ⊥) where
    pub figure_zero : eqb (get_or (drop at l) 0 0) 48 && ltb 1 n ≡ true → None ≡ figure at l
    unfolding figure_at number_of number_in
    figure_zero z = rw (← all, ne_eqb n 0 some-there, z) refl

    pub figure_some : (v : ℕ) → eqb (get_or (drop at l) 0 0) 48 && ltb 1 n ≡ false → v ≡ run kept_digit 0 (take n (drop at l))
        → Some (figure_of v (at + n)) ≡ figure at l
    unfolding figure_at number_of number_in
    figure_some v z r =
        let number : v ≡ capped (run with_digit 0 (take n (drop at l))) = r ∙ run_capped (take n (drop at l)) 0 in
        rw (← all, ne_eqb n 0 some-there, z, ne_eqb n 0 some-there, number) refl

-- a number that takes no bytes is none, and its value is 0
module _ (at : ℕ) (n : Number) where
  number_missing : n.used ≡ 0 → figure_at at n ≡ None
  unfolding figure_at
  number_missing e = rw (eq-eqb n.used 0 e) refl

  number_there : (n.used ≡ 0 → ⊥) → figure_at at n ≡ Some (figure_of (capped n.value) (at + n.used))
  unfolding figure_at
  number_there e = rw (ne_eqb n.used 0 e) refl

valueless : (l : List ℕ) → (number_of l).used ≡ 0 → (number_of l).value ≡ 0
valueless l e = go (eqb (number_of l).value 0) refl
  where
    go : (t : Bool) → eqb (number_of l).value 0 ≡ t → (number_of l).value ≡ 0
    go true q = eqb-true (number_of l).value 0 q
    go false q =
        let some-value = eqb-false (number_of l).value 0 q in
        let least : 0 < (number_of l).value = omega arith in
        absurd (omega (arith, number_some l least))

-- Counts.

module _ (l : List ℕ) (at b : ℕ) (byte : b ≡ get_or l at 0) where
  first_byte_lem : get_or (drop at l) 0 0 ≡ b
  first_byte_lem = let same : at + 0 ≡ at = omega arith in get_or-drop at l 0 0 ∙ ap (λ (k : ℕ). get_or l k 0) same ∙ sym byte

  pub tally_bare : is_digit b ≡ false → Some (a_tally true 1 at) ≡ tally_at at (count_of (drop at l))
  unfolding tally_at count_of
  tally_bare d = let same : at ≡ at + 0 = omega arith in rw (first_byte_lem, d) (ap (λ (k : ℕ). Some (a_tally true 1 k)) same)

  -- a count that is written: none where there is no number, or it is 0
  pub tally_number : is_digit b ≡ true → tally_at at (count_of (drop at l)) ≡ option_and_then written_tally (figure at l)
  unfolding tally_at count_of
  tally_number d = rw (first_byte_lem, d) (go (eqb n.used 0) (eqb n.value 0) refl refl)
    where
      n : Number
      n = number_of (drop at l)

      go : (u t : Bool) → eqb n.used 0 ≡ u → eqb n.value 0 ≡ t → tally_at at (pick t none (some (times n.value) n.used)) ≡ option_and_then written_tally (figure_at at n)
      go true true p q = rw (number_missing at n (eqb-true n.used 0 p)) refl
      go true false p q = absurd (eqb-false n.value 0 q (valueless (drop at l) (eqb-true n.used 0 p)))
      go false true p q =
          let zero-kept : capped n.value ≡ 0 = omega (arith, eqb-true n.value 0 q) in
          rw (number_there at n (eqb-false n.used 0 p), eq-eqb (capped n.value) 0 zero-kept) refl
      go false false p q =
          let some-kept : capped n.value ≡ 0 → ⊥ = λ e. eqb-false n.value 0 q (omega arith) in
          rw (number_there at n (eqb-false n.used 0 p), ne_eqb (capped n.value) 0 some-kept) refl

-- The code's items are the reading's.

-- a width, by its number
sized_as : (c : Count) (k : Kind) (v at : ℕ) (s t : Bool) → leb 1 v ≡ s → leb v 80 ≡ t
    → leaf_in (pick (s && t) (some c k v at) none) ≡ sized_by (kind_in k) (capped (number c)) (figure_of (capped v) at)
sized_as c k v at false t p q = rw (lt-ltb (capped v) 1 (omega (arith, leb-false 1 v p))) refl
sized_as c k v at true false p q = rw (le-ltb (capped v) 1 (omega (arith, leb-true 1 v p)), lt-ltb 80 (capped v) (omega (arith, leb-false v 80 q))) refl
sized_as c k v at true true p q =
    let same : capped v ≡ v = omega (arith, leb-true v 80 q) in
    rw (same, le-ltb v 1 (leb-true 1 v p), le-ltb 80 v (leb-true v 80 q)) refl

leaf_in_width : (c : Count) (k : Kind) (at : ℕ) (l : List ℕ) → leaf_in (width_of c k at l) ≡ sized_leaf (kind_in k) (capped (number c)) at l
unfolding width_of
leaf_in_width c k at l = go (eqb n.used 0) refl
  where
    n : Number
    n = number_of (drop at l)

    go : (t : Bool) → eqb n.used 0 ≡ t
        → leaf_in (pick (leb 1 n.value && leb n.value 80) (some c k n.value (at + n.used)) none) ≡ option_and_then (sized_by (kind_in k) (capped (number c))) (figure_at at n)
    go true q = let none-there = eqb-true n.used 0 q in rw (number_missing at n none-there, lt-leb 1 n.value (omega (arith, valueless (drop at l) none-there))) refl
    go false q = rw (number_there at n (eqb-false n.used 0 q)) (sized_as c k n.value (at + n.used) (leb 1 n.value) (leb n.value 80) refl refl)

-- decimals, by their number and how many bytes it takes
decimals_as : (c : Count) (k : own.Kind) (w at from : ℕ) (n : Number) → w ≤ 80 → (s t : Bool) → ltb 0 n.used ≡ s → leb n.value w ≡ t
    → leaf_in (pick (s && t) (some c real w (from + n.used)) none) ≡ option_and_then (decimals_by (a_leaf k (capped (number c)) w at)) (figure_at from n)
decimals_as c k w at from n h false t p q = rw (number_missing from n (omega (arith, ltb-false 0 n.used p))) refl
decimals_as c k w at from n h true false p q =
    rw (number_there from n (λ e. omega (arith, ltb-true 0 n.used p)), lt-ltb w (capped n.value) (omega (arith, leb-false n.value w q))) refl
decimals_as c k w at from n h true true p q =
    rw (number_there from n (λ e. omega (arith, ltb-true 0 n.used p)), le-ltb w (capped n.value) (omega (arith, leb-true n.value w q))) refl

leaf_in_choice : (b : Bool) (x y : Leaf) (p q : Option code.Leaf) → leaf_in x ≡ p → leaf_in y ≡ q → leaf_in (pick b x y) ≡ pick b p q
leaf_in_choice true x y p q e f = e
leaf_in_choice false x y p q e f = f

leaf_in_pointed : (x : Leaf) (l : List ℕ) → ((c : Count) (k : Kind) (w n : ℕ) → x ≡ some c k w n → w ≤ 80)
    → leaf_in (pointed x l) ≡ option_and_then (λ (i : code.Leaf). decimals_leaf i l) (leaf_in x)
unfolding pointed decimals_of
leaf_in_pointed none l h = refl
leaf_in_pointed (some c k w at) l h =
    let x = number_of (drop (at + 1) l) in
    let same = decimals_as c (kind_in k) w at (at + 1) x (h c k w at refl) (ltb 0 x.used) (leb x.value w) refl refl in
    leaf_in_choice (eqb (get_or l at 0) 46) (decimals_of c w (at + 1) l) none _ None same refl

leaf_in_real : (c : Count) (at : ℕ) (l : List ℕ) → leaf_in (real_of c at l) ≡ real_leaf (capped (number c)) at l
unfolding real_of real_leaf
leaf_in_real c at l =
    let letter = eqb (get_or l at 0) 69 || eqb (get_or l at 0) 68 in
    let by = λ (i : code.Leaf). decimals_leaf i l in
    let same = leaf_in_pointed (width_of c real (at + 1) l) l (λ d k w n e. width_most c d real k w n (at + 1) l e) ∙ ap (option_and_then by) (leaf_in_width c real (at + 1) l) in
    leaf_in_choice letter (pointed (width_of c real (at + 1) l) l) none _ None same refl

leaf_in_scaled : (x : Counting) (at : ℕ) (l : List ℕ) → leaf_in (scaled_of x at l) ≡ scaled_by (tally_at at x) l
unfolding scaled_of tally_at
leaf_in_scaled none at l = refl
leaf_in_scaled (some c k) at l = leaf_in_real c (at + k) l

one_capped : (n : ℕ) (t : Bool) → eqb n 1 ≡ t → eqb (capped n) 1 ≡ t
one_capped n true e = eq-eqb (capped n) 1 (omega (arith, eqb-true n 1 e))
one_capped n false e = ne_eqb (capped n) 1 (λ q. eqb-false n 1 e (omega (arith, q)))

-- what follows P
leaf_in_one : (c : Count) (x : Leaf) (y : Option code.Leaf) → leaf_in x ≡ y → leaf_in (pick (is_one c) x none) ≡ pick (is_bare c) None (pick (eqb (capped (number c)) 1) y None)
unfolding is_one
leaf_in_one once x y e = refl
leaf_in_one (times n) x y e = rw (one_capped n (eqb n 1) refl) (leaf_in_choice (eqb n 1) x none y None e refl)

pub leaf_in_leaf : (c : Count) (at : ℕ) (l : List ℕ) → leaf_in (leaf_of c at l) ≡ plain_leaf (found c at) l
unfolding leaf_of plain_leaf
leaf_in_leaf c at l =
    let n = capped (number c) in
    let b = get_or l at 0 in
    let scaled = scaled_of (count_of (drop (at + 1) l)) (at + 1) l in
    let P : Leaf = pick (eqb b 80) (pick (is_one c) scaled none) (real_of c at l) in
    let P' : Option code.Leaf = pick (eqb b 80) (pick (is_bare c) None (pick (eqb n 1) (scaled_leaf (at + 1) l) None)) (real_leaf n at l) in
    let A : Leaf = pick (eqb b 65) (width_of c text (at + 1) l) P in
    let A' : Option code.Leaf = pick (eqb b 65) (sized_leaf Text n (at + 1) l) P' in
    let I : Leaf = pick (eqb b 73) (width_of c integer (at + 1) l) A in
    let I' : Option code.Leaf = pick (eqb b 73) (sized_leaf Integer n (at + 1) l) A' in
    let after-P = leaf_in_one c scaled (scaled_leaf (at + 1) l) (leaf_in_scaled (count_of (drop (at + 1) l)) (at + 1) l) in
    let p : leaf_in P ≡ P' = leaf_in_choice (eqb b 80) (pick (is_one c) scaled none) (real_of c at l) _ _ after-P (leaf_in_real c at l) in
    let a : leaf_in A ≡ A' = leaf_in_choice (eqb b 65) (width_of c text (at + 1) l) P (sized_leaf Text n (at + 1) l) P' (leaf_in_width c text (at + 1) l) p in
    let i : leaf_in I ≡ I' = leaf_in_choice (eqb b 73) (width_of c integer (at + 1) l) A (sized_leaf Integer n (at + 1) l) A' (leaf_in_width c integer (at + 1) l) a in
    leaf_in_choice (eqb b 88) (some c skip 1 (at + 1)) I (Some (a_leaf Skip n 1 (at + 1))) I' refl i

-- The code's measures are the reading's.

capped_left : (a w : ℕ) → capped (capped a * w) ≡ capped (a * w)
capped_left a zero = omega arith
capped_left a (suc w) = go (ltb a 81) refl
  where
    go : (t : Bool) → ltb a 81 ≡ t → capped (capped a * suc w) ≡ capped (a * suc w)
    go true e = let same : capped a ≡ a = omega (arith, ltb-true a 81 e) in rw same refl
    go false e =
        let least = ltb-false a 81 e in
        let same : capped a ≡ 81 = omega arith in
        let over : 81 * suc w ≤ a * suc w = mul-le-mul least (omega arith) in
        rw same (omega arith)

capped_product : (a b : ℕ) → capped (capped a * capped b) ≡ capped (a * b)
capped_product a b =
    let turn : a * capped b ≡ capped b * a = omega arith in
    let turned : b * a ≡ a * b = omega arith in
    capped_left a (capped b) ∙ ap capped turn ∙ capped_left b a ∙ ap capped turned

pub measured_leaf_lem : (x : Leaf) → measured (leaf x) ≡ option_map measured_leaf (leaf_in x)
unfolding measured leaf depth groups columns
measured_leaf_lem none = refl
measured_leaf_lem (some c k w at) = ap (λ (n : ℕ). Some (a_measure at 0 0 n)) (sym (capped_left (number c) w))

deeper_least : (d : ℕ) → min (suc d) 4 ≡ deeper (min d 4)
deeper_least d = omega arith

highest_least : (a b : ℕ) → min (max a b) 4 ≡ max (min a 4) (min b 4)
highest_least a b = omega arith

group_least : (c : Count) (t : Format) → min (groups (group c t)) 4 ≡ group_depth (is_bare c) (min (depth t) 4)
unfolding groups
group_least once t = refl
group_least (times n) t = deeper_least (depth t)

depth_group : (c : Count) (t : Format) → min (depth (group c t)) 4 ≡ deeper (min (depth t) 4)
unfolding depth
depth_group c t = deeper_least (depth t)

columns_group : (c : Count) (t : Format) → capped (columns (group c t)) ≡ capped (capped (number c) * capped (columns t))
unfolding columns
columns_group c t = sym (capped_product (number c) (columns t))

group_measured : (c : Count) (t : Format) (at : ℕ) → measured (some (group c t) at)
    ≡ Some (a_measure at (deeper (min (depth t) 4)) (group_depth (is_bare c) (min (depth t) 4)) (capped (capped (number c) * capped (columns t))))
unfolding measured
group_measured c t at = rw (depth_group c t, group_least c t, columns_group c t) refl

join_measured : (t u : Format) (at : ℕ) → measured (some (join t u) at)
    ≡ Some (a_measure at (max (min (depth t) 4) (min (depth u) 4)) (max (min (depth t) 4) (min (depth u) 4)) (capped (capped (columns t) + capped (columns u))))
unfolding measured depth groups columns
join_measured t u at =
    let sum : capped (columns t + columns u) ≡ capped (capped (columns t) + capped (columns u)) = omega arith in
    rw (highest_least (depth t) (depth u), sum) refl

measured_pick : (b : Bool) (x y : Parsed) → measured (pick b x y) ≡ pick b (measured x) (measured y)
measured_pick true x y = refl
measured_pick false x y = refl

pub measured_closed : (c : Count) (k : ℕ) (l : List ℕ) (p : Parsed) → measured (closed c l p) ≡ option_and_then (closed_measure (found c k) l) (measured p)
unfolding closed measured
measured_closed c k l none = refl
measured_closed c k l (some t at) =
    measured_pick (eqb (get_or l at 0) 41) (some (group c t) (at + 1)) none
    ∙ ap (λ (m : Option Measure). pick (eqb (get_or l at 0) 41) m None) (group_measured c t (at + 1))

-- a measure is there where a format is, and ends where it does
pub measured_joined : (t : Format) (k : ℕ) (p : Parsed) → measured (joined t p) ≡ option_map (joined_measure (a_measure k (min (depth t) 4) (min (groups t) 4) (capped (columns t)))) (measured p)
unfolding joined measured
measured_joined t k none = refl
measured_joined t k (some u at) = join_measured t u at
