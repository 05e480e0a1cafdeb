-- A loop over the numbers finds the first refusal, and fills the places.
use Rattle.std.specs.Prelude.{◌≡◌, Float, Option, Some, None, get_or, take, drop, set, Ok, Err}
use Rattle.std.proofs.Math.Path.{refl, sym}
use Rattle.std.proofs.Common.{ap, ◌∙◌, le_of_suc-le-suc, take-append-drop}
use mathlib.Core.List.{List, [], ◌∷◌, ◌++◌, append_assoc, append-nil, map}
use Prim.Native.Nat.{ℕ, zero, suc, ◌+◌, ◌-◌, ◌≤◌, ◌<◌}
use Rattle.std.proofs.Math.Numerals.{add-one}
use native.Mathlib.Omega.{arith}
use borrow.Author.Tests.{lt-ltb, le-ltb}
use Rattle.std.proofs.Math.ListN.{length}
use Rattle.std.proofs.Math.Seq.{drop-cons, take-suc-set, drop-set-lt}
use Rattle.real.specs.Real.{Real}
use Rattle.exact.specs.Exact.{exact_of}
use Rattle.exact.specs.Bits.{bits_of}
use Rattle.reader.specs.Reader.{Read}
use Rattle.reader.specs.Reader.{said, refused, on_exact, read_of, reads, whole}
use Rattle.values.specs.Fill.{refusal_of, refusal_in, pattern_or, floats_in, patterns_put}

-- one turn of a loop over the numbers, at number j of so many
module _ (g : ℕ → Real) (j count : ℕ) where
  module _ (h : j < count) where
    reads_next : reads g j (count - j) ≡ read_of (g j) ∷ reads g (j + 1) (count - (j + 1))
    unfolding reads
    reads_next = let e : count - j ≡ suc (count - (j + 1)) = omega arith in rw (e, add-one) refl

    pub refusal_here : (r : Read) (n : ℕ) → r ≡ read_of (g j) → n ≡ refusal_of r → 0 < n → n ≡ refusal_in (reads g j (count - j))
    unfolding refusal_in
    refusal_here r n e f p = rw (reads_next, ← e, ← f, lt-ltb 0 n p) refl

    pub refusal_next : (r : Read) (n : ℕ) → r ≡ read_of (g j) → n ≡ refusal_of r → n ≤ 0
        → refusal_in (reads g (j + 1) (count - (j + 1))) ≡ refusal_in (reads g j (count - j))
    unfolding refusal_in
    refusal_next r n e f p = sym (rw (reads_next, ← e, ← f, le-ltb 0 n p) refl)

  pub refusal_none : count ≤ j → 0 ≡ refusal_in (reads g j (count - j))
  unfolding refusal_in reads
  refusal_none h = let e : count - j ≡ 0 = omega arith in rw e refl

  pub patterns_none : count ≤ j → (l : List ℕ) → l ≡ take j l ++ patterns_put (reads g j (count - j)) (drop j l)
  unfolding patterns_put reads
  patterns_none h l = let e : count - j ≡ 0 = omega arith in rw (e, take-append-drop) refl

  -- a number is put at its place: what is put, and what is still to be put, stay the same together
  pub patterns_next : j < count → (l : List ℕ) → count ≤ length l → (y v : ℕ) → v ≡ pattern_or (get_or l j y) (read_of (g j))
      → take (j + 1) (set l j v) ++ patterns_put (reads g (j + 1) (count - (j + 1))) (drop (j + 1) (set l j v)) ≡ take j l ++ patterns_put (reads g j (count - j)) (drop j l)
  unfolding patterns_put
  patterns_next h l k y v e =
      let i : j < length l = omega arith in
      sym (rw (reads_next h, drop-cons l j y i, add-one, take-suc-set l j v i, drop-set-lt (suc j) l j v (omega arith), append_assoc, e) refl)

-- a refusal of a number is 18 or 21
refused_some : (x : Real) (n : ℕ) → read_of x ≡ Err n → 0 < n
unfolding read_of
refused_some (Ok m) n e = on_exact_lem (exact_of m.minus m.coefficient m.below m.scale) e
  where
    on_exact_lem : (y : Option Float) → on_exact y ≡ Err n → 0 < n
    on_exact_lem (Some v) q = let z : ◌≡◌ {A = ℕ} 0 1 = cc in absurd (omega arith)
    on_exact_lem None q = let z : 21 ≡ n = cc in omega arith
refused_some (Err _) n e = let z : 18 ≡ n = cc in omega arith

-- a number that is refused has a refusal's number; so where none is refused there is a value
module _ (x : Real) (rs : List Read) where
  pub first_refused : (m : ℕ) → read_of x ≡ Err m → refusal_in (read_of x ∷ rs) ≡ m
  unfolding refusal_in
  first_refused m q = rw (q, lt-ltb 0 m (refused_some x m q)) refl

  pub first_value : refusal_in (read_of x ∷ rs) ≤ 0 → (v : Float) × (read_of x ≡ Ok v)
  first_value h = go (read_of x) refl
    where
      go : (r : Read) → read_of x ≡ r → (v : Float) × (read_of x ≡ Ok v)
      go (Ok v) q = (v, q)
      go (Err m) q = absurd (omega (arith, first_refused m q, refused_some x m q))

-- the numbers j to j + k − 1
module _ (g : ℕ → Real) where
  -- one that is refused refuses the whole question
  pub whole_refused : (j k place : ℕ) (xs : List Float) → 0 < refusal_in (reads g j k) → whole place xs (reads g j k) ≡ refused (refusal_in (reads g j k)) 0
  unfolding refusal_in reads whole
  whole_refused j zero place xs p = absurd (omega arith)
  whole_refused j (suc k) place xs p = go (read_of (g j)) refl (λ (ys : List Float). whole_refused (suc j) k place ys)
    where
      go : (r : Read) → read_of (g j) ≡ r → ((ys : List Float) → 0 < refusal_in (reads g (suc j) k) → whole place ys (reads g (suc j) k) ≡ refused (refusal_in (reads g (suc j) k)) 0)
          → whole place xs (read_of (g j) ∷ reads g (suc j) k) ≡ refused (refusal_in (read_of (g j) ∷ reads g (suc j) k)) 0
      go (Ok x) q ih = rw q (ih (xs ++ (x ∷ [])) (rw q at p))
      go (Err m) q ih = rw (first_refused (g j) (reads g (suc j) k) m q, q) refl

  -- otherwise all are shown, in order
  pub whole_shown : (j k place : ℕ) (xs : List Float) → refusal_in (reads g j k) ≤ 0 → whole place xs (reads g j k) ≡ said 0 place (xs ++ floats_in (reads g j k))
  unfolding refusal_in reads whole floats_in
  whole_shown j zero place xs h = rw append-nil refl
  whole_shown j (suc k) place xs h =
      let v = first_value (g j) (reads g (suc j) k) h in
      rw v.1 (whole_shown (suc j) k place (xs ++ (v.0 ∷ [])) (rw v.1 at h) ∙ rw append_assoc refl)

  -- as many as there are
  pub shown_length : (j k : ℕ) → refusal_in (reads g j k) ≤ 0 → length (floats_in (reads g j k)) ≡ k
  unfolding refusal_in reads floats_in
  shown_length j zero h = refl
  shown_length j (suc k) h =
      let v = first_value (g j) (reads g (suc j) k) h in
      rw v.1 (ap suc (shown_length (suc j) k (rw v.1 at h)))

  -- and their bit patterns are put into the first places
  pub patterns_shown : (j k : ℕ) (out : List ℕ) → refusal_in (reads g j k) ≤ 0 → k ≤ length out → patterns_put (reads g j k) out ≡ map bits_of (floats_in (reads g j k)) ++ drop k out
  unfolding refusal_in reads patterns_put floats_in
  patterns_shown j zero out h l = refl
  patterns_shown j (suc k) [] h l = absurd (omega arith)
  patterns_shown j (suc k) (y ∷ out) h l =
      let v = first_value (g j) (reads g (suc j) k) h in
      rw v.1 (ap (λ (r : List ℕ). bits_of v.0 ∷ r) (patterns_shown (suc j) k out (rw v.1 at h) (le_of_suc-le-suc l)))
