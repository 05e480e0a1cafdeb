-- What the reader's rule makes of a list's items is rounded once, or 21.
use Rattle.std.specs.Prelude.{◌≡◌, Bool, true, false, leb, Some, None, Float, ℤ, pos, negsuc, nat_abs, length, Ok, Err}
use Rattle.std.proofs.Math.Path.{refl, subst}
use Rattle.std.proofs.Common.{sym, ap, inl, inr, leb-true, leb-false}
use mathlib.Core.List.{List, [], ◌∷◌, ◌++◌, append-nil, append_assoc}
use Prim.Native.Nat.{ℕ, zero, suc, ◌+◌, ◌*◌, ◌<◌, ◌≤◌}
use native.Mathlib.Omega.{arith}
use Rattle.laws.specs.Choice.{pick}
use Rattle.real.specs.Real.{below_zero}
use Rattle.real.specs.Real.{Real}
use Rattle.exact.specs.Exact.{magnitude_of, with_sign, exact_of}
use Rattle.exact.specs.ExactLaws.{magnitude_of_times, magnitude_of_divided}
use Rattle.field.specs.Item.{Item}
use Rattle.layout.specs.Layout.{numbers_of}
use Rattle.parts.specs.Parts.{Part}
use Rattle.reader.specs.Reader.{Read}
use Rattle.reader.specs.Reader.{Said, said, refused, on_exact, read_of, reads, whole, value_kind, value_with, value_of}
use Rattle.theory.specs.Sets.{Set}
use Rattle.theory.specs.Proper.{Proper}
use Rattle.parts_laws.specs.Declares.{declared, set_case}
use Rattle.parts_laws.specs.Stored.{stored_count, stored_item}
use Rattle.theorems.specs.Stands.{At58}
use Rattle.theorems.specs.Answers.{real_of_item, value_said}
use Rattle.theorems.specs.Rounded.{nearest, Rounded, Outside, EachRounded, none, more, OnceOr21, once, outside}
use Rattle.theorems.proofs.ColumnsLaws.{value_number}
use Rattle.theorems.proofs.ReaderLaws.{reader_numbers, reader_values}

magnitude_nearest : (c : ℕ) (z : ℤ) → c ≤ 9007199254740992 → nat_abs z ≤ 22 → magnitude_of c (below_zero z) (nat_abs z) ≡ nearest c z
magnitude_nearest c (pos k) h g = magnitude_of_times c k h g
magnitude_nearest c (negsuc k) h g = magnitude_of_divided c (suc k) h g

-- an item that is a real
record IsReal (i : Item) : Type 0 where
  sign : Bool
  coefficient : ℕ
  scale : ℤ
  item : i ≡ Item.real sign coefficient scale

-- one item: its f64, or 21
data OneRead (i : Item) : Read → Type 0 where
  value : (x : Float) → Rounded i x → OneRead i (Ok x)
  refusal : Outside i → OneRead i (Err 21)

read_real : (n : Bool) (c : ℕ) (z : ℤ) → OneRead (Item.real n c z) (read_of (real_of_item (Item.real n c z)))
unfolding read_of exact_of
read_real n c z = go (leb c 9007199254740992) (leb (nat_abs z) 22) refl refl
  where
    go : (few near : Bool) → leb c 9007199254740992 ≡ few → leb (nat_abs z) 22 ≡ near
        → OneRead (Item.real n c z) (on_exact (pick few (pick near (Some (with_sign n (magnitude_of c (below_zero z) (nat_abs z)))) None) None))
    go true true p q =
        let few = leb-true c 9007199254740992 p in
        let near = leb-true (nat_abs z) 22 q in
        value _ (record { sign = n; coefficient = c; scale = z; item = refl; few = few; near = near; rounded = ap (with_sign n) (magnitude_nearest c z few near) })
    go true false p q = refusal (record { sign = n; coefficient = c; scale = z; item = refl; outside = inr (leb-false (nat_abs z) 22 q) })
    go false t p q = refusal (record { sign = n; coefficient = c; scale = z; item = refl; outside = inl (leb-false c 9007199254740992 p) })

one_read : (i : Item) → IsReal i → OneRead i (read_of (real_of_item i))
one_read i w = subst (λ (y : Item). OneRead y (read_of (real_of_item y))) (sym w.item) (read_real w.sign w.coefficient w.scale)

-- several, after those shown already
module _ (s : Set) (place : ℕ) where
  abbrev number : ℕ → Real
  number j = real_of_item (stored_item s j)

  data From (j k : ℕ) (ys : List Float) : Said Float → Type 0 where
    all : (xs : List Float) → length xs ≡ k → EachRounded s j xs → From j k ys (said 0 place (ys ++ xs))
    one : (r : ℕ) → r < k → Outside (stored_item s (j + r)) → From j k ys (refused 21 0)

  later : {j k : ℕ} {x : Float} {ys : List Float} {r : Said Float} → Rounded (stored_item s j) x → From (suc j) k (ys ++ (x ∷ [])) r → From j (suc k) ys r
  later {j} {k} {x} {ys} w (all xs l e) =
      subst (λ (l : List Float). From j (suc k) ys (said 0 place l)) (sym (append_assoc ys (x ∷ []) xs)) (all (x ∷ xs) (omega arith) (more w e))
  later {j} w (one r l o) = let same : suc j + r ≡ j + suc r = omega arith in one (suc r) (omega arith) (subst (λ (n : ℕ). Outside (stored_item s n)) same o)

  from : (j k : ℕ) (ys : List Float) → ((r : ℕ) → r < k → IsReal (stored_item s (j + r))) → From j k ys (whole place ys (reads number j k))
  unfolding whole reads
  from j zero ys h = subst (λ (l : List Float). From j 0 ys (said 0 place l)) (append-nil ys) (all [] refl none)
  from j (suc k) ys h =
      let at_j : j + 0 ≡ j = omega arith in
      let next : (r : ℕ) → r < k → IsReal (stored_item s (suc j + r)) = λ r l.
      let at-r : j + suc r ≡ suc j + r = omega arith in
      subst (λ (n : ℕ). IsReal (stored_item s n)) at-r (h (suc r) (omega arith)) in
      by (read_of (number j)) (one_read (stored_item s j) (subst (λ (n : ℕ). IsReal (stored_item s n)) at_j (h 0 (omega arith)))) (λ x. from (suc j) k (ys ++ (x ∷ [])) next)
    where
      by : (r : Read) → OneRead (stored_item s j) r → ((x : Float) → From (suc j) k (ys ++ (x ∷ [])) (whole place (ys ++ (x ∷ [])) (reads number (suc j) k)))
          → From j (suc k) ys (whole place ys (r ∷ reads number (suc j) k))
      by (Ok x) (value y w) ih = later w (ih x)
      by (Err n) (refusal o) ih = let at_j : j ≡ j + 0 = omega arith in one 0 (omega arith) (subst (λ (n : ℕ). Outside (stored_item s n)) at_j o)

  together : {j k : ℕ} {r : Said Float} → From j k [] r → OnceOr21 s j k place r
  together (all xs l e) = once xs l e
  together (one r l o) = outside r l o

module _ {sets : List Set} {bytes : List ℕ} (p : Proper sets bytes) {k : ℕ} {s : Set} {q : Part} (a : At58 sets bytes k s q) where
  item_real : (j : ℕ) → j < stored_count s → IsReal (stored_item s j)
  item_real j l = let x = reader_numbers p a j l in record { sign = x.sign; coefficient = x.coefficient; scale = x.scale; item = x.item }

  pub value_rounded : (i : ℕ) → i < declared s → OnceOr21 s (i * numbers_of (set_case s)) (numbers_of (set_case s)) (value_kind (set_case s)) (value_of bytes (suc k) i)
  unfolding value_said value_with stored_count
  value_rounded i l =
      let c : ℕ = set_case s in
      let items : (r : ℕ) → r < numbers_of c → IsReal (stored_item s (i * numbers_of c + r)) = λ r m. item_real (i * numbers_of c + r) (value_number i r (numbers_of c) (declared s) l m) in
      rw (reader_values p a i l) (together s (value_kind c) (from s (value_kind c) (i * numbers_of c) (numbers_of c) [] items))
