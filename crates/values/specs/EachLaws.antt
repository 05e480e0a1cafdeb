-- All values at once are the values one after the other: where they are shown, each value is its own part of them; where they are refused, a
-- value is refused so.
use Rattle.std.specs.Prelude.{◌≡◌, Float, length, Ok, Err}
use Rattle.std.proofs.Math.Path.{refl, ap}
use Rattle.std.proofs.Common.{sym, ◌∙◌, zero-mul, suc-mul, mul-le-mul_right, lt-ltb, le-ltb}
use Rattle.std.proofs.Math.Logic.{⊎_elim}
use mathlib.Core.List.{List, [], ◌∷◌, ◌++◌}
use Prim.Native.Nat.{ℕ, zero, suc, ◌+◌, ◌-◌, ◌*◌, ◌≤◌, ◌<◌}
use native.Mathlib.Omega.{arith}
use Rattle.std.proofs.Math.ListN.{take, drop}
use Rattle.std.proofs.Math.Seq.{take_at, drop_at}
use Rattle.laws.specs.ChoiceLaws.{below_or_not}
use Rattle.real.specs.Real.{Real}
use Rattle.layout.specs.Layout.{numbers_of}
use Rattle.reader.specs.Reader.{Read}
use Rattle.reader.specs.Reader.{Said, said, refused, read_of, reads, whole, value_kind, value_with}
use Rattle.values.specs.Fill.{refusal_of, refusal_in, floats_in}
use Rattle.values.specs.FillLaws.{whole_refused, whole_shown, shown_length}
use Rattle.values.specs.Each.{Each}

-- numbers after numbers
reads_append : (g : ℕ → Real) (j a b : ℕ) → reads g j (a + b) ≡ reads g j a ++ reads g (j + a) b
unfolding reads
reads_append g j zero b = let z : j + 0 ≡ j = omega arith in let y : 0 + b ≡ b = omega arith in rw (z, y) refl
reads_append g j (suc a) b =
    let z : suc a + b ≡ suc (a + b) = omega arith in
    let y : j + suc a ≡ suc j + a = omega arith in
    rw (z, y) (ap (λ (l : List Read). read_of (g j) ∷ l) (reads_append g (suc j) a b))

floats_append : (a b : List Read) → floats_in (a ++ b) ≡ floats_in a ++ floats_in b
unfolding floats_in
floats_append [] b = refl
floats_append (Ok x ∷ a) b = ap (λ (l : List Float). x ∷ l) (floats_append a b)
floats_append (Err n ∷ a) b = floats_append a b

-- the first refusal is among the first numbers, or it is the first of the others
refusal_before : (a b : List Read) → 0 < refusal_in a → refusal_in (a ++ b) ≡ refusal_in a
unfolding refusal_in
refusal_before [] b h = absurd (omega arith)
refusal_before (r ∷ a) b h =
    ⊎_elim
    (λ (l : 0 < refusal_of r). rw (lt-ltb 0 (refusal_of r) l) refl)
    (λ (l : refusal_of r ≤ 0). rw (le-ltb 0 (refusal_of r) l) (refusal_before a b (rw (le-ltb 0 (refusal_of r) l) at h)))
    (below_or_not 0 (refusal_of r))

refusal_after : (a b : List Read) → refusal_in a ≤ 0 → refusal_in (a ++ b) ≡ refusal_in b
unfolding refusal_in
refusal_after [] b h = refl
refusal_after (r ∷ a) b h =
    ⊎_elim
    (λ (l : 0 < refusal_of r). absurd (let k : refusal_of r ≤ 0 = rw (lt-ltb 0 (refusal_of r) l) at h in omega arith))
    (λ (l : refusal_of r ≤ 0). rw (le-ltb 0 (refusal_of r) l) (refusal_after a b (rw (le-ltb 0 (refusal_of r) l) at h)))
    (below_or_not 0 (refusal_of r))

refusal_neither : (a b : List Read) → refusal_in (a ++ b) ≤ 0 → (refusal_in a ≤ 0) × (refusal_in b ≤ 0)
refusal_neither a b h =
    ⊎_elim
    (λ (l : 0 < refusal_in a). absurd (omega (arith, refusal_before a b l)))
    (λ (l : refusal_in a ≤ 0). (l, omega (arith, refusal_after a b l)))
    (below_or_not 0 (refusal_in a))

-- the numbers of so many values of a case
module _ (g : ℕ → Real) (c : ℕ) where
  abbrev k : ℕ
  k = numbers_of c

  abbrev all : ℕ → List Read
  all count = reads g 0 (count * k)

  -- those before value i, its own, and those after it
  around : (count i : ℕ) → i < count → all count ≡ reads g 0 (i * k) ++ (reads g (i * k) k ++ reads g (i * k + k) (count * k - suc i * k))
  around count i h =
      let a : suc i * k ≤ count * k = mul-le-mul_right k h in
      let b : suc i * k ≡ i * k + k = suc-mul i k in
      let z : count * k ≡ i * k + (k + (count * k - suc i * k)) = omega arith in
      let after = count * k - suc i * k in
      ap (reads g 0) z ∙ reads_append g 0 (i * k) (k + after)
      ∙ rw (reads_append g (0 + i * k) k after) (ap (λ (x : ℕ). reads g 0 (i * k) ++ (reads g x k ++ reads g (x + k) after)) (omega arith))

  value_part : (count : ℕ) → refusal_in (all count) ≤ 0 → (i : ℕ) → i < count → value_with g c i ≡ said 0 (value_kind c) (take k (drop (i * k) (floats_in (all count))))
  unfolding value_with
  value_part count h i l =
      let rest = reads g (i * k + k) (count * k - suc i * k) in
      let n = refusal_neither (reads g 0 (i * k)) (reads g (i * k) k ++ rest) (rw (around count i l) at h) in
      let m = refusal_neither (reads g (i * k) k) rest n.1 in
      let p : floats_in (all count) ≡ floats_in (reads g 0 (i * k)) ++ (floats_in (reads g (i * k) k) ++ floats_in rest)
      = ap floats_in (around count i l) ∙ floats_append (reads g 0 (i * k)) (reads g (i * k) k ++ rest) ∙ rw (floats_append (reads g (i * k) k) rest) refl in
      let d : drop (i * k) (floats_in (all count)) ≡ floats_in (reads g (i * k) k) ++ floats_in rest
      = ap (drop (i * k)) p ∙ drop_at (floats_in (reads g 0 (i * k))) _ (i * k) (shown_length g 0 (i * k) n.0) in
      let t : take k (drop (i * k) (floats_in (all count))) ≡ floats_in (reads g (i * k) k)
      = ap (take k) d ∙ take_at (floats_in (reads g (i * k) k)) _ k (shown_length g (i * k) k m.0) in
      whole_shown g (i * k) k (value_kind c) [] m.0 ∙ rw t refl

  value_refused : (count : ℕ) → 0 < refusal_in (all count) → (i : ℕ) × ((i < count) × (value_with g c i ≡ refused (refusal_in (all count)) 0))
  unfolding value_with refusal_in reads
  value_refused zero h = absurd (let z : refusal_in (all 0) ≡ 0 = rw (zero-mul k) refl in omega arith)
  value_refused (suc n) h =
      let z : reads g 0 (suc n * k) ≡ reads g 0 (n * k) ++ reads g (n * k) k
      = ap (reads g 0) (suc-mul n k) ∙ reads_append g 0 (n * k) k ∙ ap (λ (x : ℕ). reads g 0 (n * k) ++ reads g x k) (omega arith) in
      ⊎_elim
      (λ (l : 0 < refusal_in (all n)).
      let e : refusal_in (all (suc n)) ≡ refusal_in (all n) = ap refusal_in z ∙ refusal_before (all n) (reads g (n * k) k) l in
      let w = value_refused n l in
      (w.0, (omega (arith, w.1.0), rw e w.1.1)))
      (λ (l : refusal_in (all n) ≤ 0).
      let e : refusal_in (all (suc n)) ≡ refusal_in (reads g (n * k) k) = ap refusal_in z ∙ refusal_after (all n) (reads g (n * k) k) l in
      (n, (omega arith, rw e (whole_refused g (n * k) k (value_kind c) [] (rw e at h)))))
      (below_or_not 0 (refusal_in (all n)))

module _ (g : ℕ → Real) (c count : ℕ) where
  pub all_each : (n : ℕ) (xs : List Float) → whole (count * numbers_of c) [] (all g c count) ≡ said 0 n xs → Each g c count n xs
  all_each n xs e =
      ⊎_elim
      (λ (l : 0 < refusal_in (all g c count)).
      let z : refusal_in (all g c count) ≡ 0 = ap (λ (s : Said Float). s.reply.number) (sym (whole_refused g 0 (count * numbers_of c) (count * numbers_of c) [] l) ∙ e) in
      absurd (omega arith))
      (λ (l : refusal_in (all g c count) ≤ 0).
      let z : said 0 (count * numbers_of c) (floats_in (all g c count)) ≡ said 0 n xs = sym (whole_shown g 0 (count * numbers_of c) (count * numbers_of c) [] l) ∙ e in
      let x : floats_in (all g c count) ≡ xs = ap (λ (s : Said Float). s.shown) z in
      let m : count * numbers_of c ≡ n = ap (λ (s : Said Float). s.reply.place) z in
      record {
        counted = sym m;
        long = ap length (sym x) ∙ shown_length g 0 (count * numbers_of c) l ∙ m;
        value = λ i h. value_part g c count l i h ∙ rw x refl;
      })
      (below_or_not 0 (refusal_in (all g c count)))

  pub all_refused : (m p : ℕ) → 0 < m → whole (count * numbers_of c) [] (all g c count) ≡ refused m p → (i : ℕ) × ((i < count) × (value_with g c i ≡ refused m p))
  all_refused m p h e =
      ⊎_elim
      (λ (l : 0 < refusal_in (all g c count)).
      let z : refused (refusal_in (all g c count)) 0 ≡ refused m p = sym (whole_refused g 0 (count * numbers_of c) (count * numbers_of c) [] l) ∙ e in
      let w = value_refused g c count l in
      (w.0, (w.1.0, w.1.1 ∙ z)))
      (λ (l : refusal_in (all g c count) ≤ 0).
      let z : 0 ≡ m = ap (λ (s : Said Float). s.reply.number) (sym (whole_shown g 0 (count * numbers_of c) (count * numbers_of c) [] l) ∙ e) in
      absurd (omega arith))
      (below_or_not 0 (refusal_in (all g c count)))
