-- A record's condition, as a writing states it and as the check tests it.
use Rattle.std.specs.Prelude.{◌≡◌, Bool, ◌&&◌, not, List, [], ◌∷◌, ℕ, ◌+◌, ◌<◌, eqb, ℤ, pos, negsuc, get_or}
use Rattle.std.proofs.Math.Path.{refl}
use Rattle.std.proofs.Common.{sym, ap, subst, arith, eqb-true, ne_eqb}
use Rattle.std.proofs.Math.Bool.{true, false}
use Rattle.std.proofs.lemmas.Bool.{eqb-false}
use Rattle.laws.specs.Choice.{pick}
use Rattle.laws.specs.ChoiceLaws.{false_not_true}
use Rattle.field.specs.Item.{Item, is_zero_integer, is_zero_real, is_above_zero}
use Rattle.record_table.specs.Row.{Condition, none, zero_if_uneven, above_zero, first_not_above, breach}
use Rattle.record.specs.Written.{AllAbove, nil, cons, Zero, Kept, nothing, spaced, factors}

-- the third item is the integer 0 exactly when the test says so
zero_integer : (i : Item) → is_zero_integer i ≡ true → i ≡ Item.integer (pos 0)
zero_integer (Item.text t) h = false_not_true h
zero_integer (Item.integer (pos v)) h = ap (λ (x : ℕ). Item.integer (pos x)) (eqb-true v 0 h)
zero_integer (Item.integer (negsuc v)) h = false_not_true h
zero_integer Item.blank h = false_not_true h
zero_integer (Item.real n c s) h = false_not_true h

zero_real : (i : Item) → is_zero_real i ≡ true → Zero i
zero_real (Item.text t) h = false_not_true h
zero_real (Item.integer z) h = false_not_true h
zero_real Item.blank h = false_not_true h
zero_real (Item.real n c s) h = subst (λ (x : ℕ). Zero (Item.real n x s)) (sym (eqb-true c 0 h)) Zero.zero

real_zero : {i : Item} → Zero i → is_zero_real i ≡ true
real_zero Zero.zero = refl

-- 58's line 7
module _ (is : List Item) where
  spaced_complete : (t : Bool) → is_zero_integer (get_or is 2 Item.blank) ≡ t
      → (get_or is 2 Item.blank ≡ Item.integer (pos 0) → Zero (get_or is 3 Item.blank) × Zero (get_or is 4 Item.blank))
      → breach zero_if_uneven is ≡ 0
  unfolding breach
  spaced_complete false e k = rw e refl
  spaced_complete true e k = let z = k (zero_integer _ e) in rw (e, real_zero z.0, real_zero z.1) refl

  both_zero : (a b : Bool) → ◌≡◌ {A = ℕ} (pick a (pick b 0 5) 4) 0 → (a ≡ true) × (b ≡ true)
  both_zero true true h = (refl, refl)
  both_zero true false h = absurd (omega arith)
  both_zero false b h = absurd (omega arith)

  spaced_sound : breach zero_if_uneven is ≡ 0
      → get_or is 2 Item.blank ≡ Item.integer (pos 0) → Zero (get_or is 3 Item.blank) × Zero (get_or is 4 Item.blank)
  unfolding breach
  spaced_sound h e =
      let b = both_zero (is_zero_real (get_or is 3 Item.blank)) (is_zero_real (get_or is 4 Item.blank)) (rw (ap is_zero_integer e) at h) in
      (zero_real _ b.0, zero_real _ b.1)

-- 164's factors
above_complete : {is : List Item} (k : ℕ) → AllAbove is → first_not_above k is ≡ 0
unfolding first_not_above
above_complete k nil = refl
above_complete k (cons {c} n r) = rw (ne_eqb c 0 n) (above_complete (k + 1) r)

above_real : (c : ℕ) (s : ℤ) (is : List Item) (n t : Bool) → eqb c 0 ≡ t → not n && not t ≡ true → AllAbove is → AllAbove (Item.real n c s ∷ is)
above_real c s is false false e h r = cons (eqb-false c 0 e) r
above_real c s is false true e h r = false_not_true h
above_real c s is true t e h r = false_not_true h

above_item : (i : Item) (is : List Item) → is_above_zero i ≡ true → AllAbove is → AllAbove (i ∷ is)
above_item (Item.text t) is h r = false_not_true h
above_item (Item.integer z) is h r = false_not_true h
above_item Item.blank is h r = false_not_true h
above_item (Item.real n c s) is h r = above_real c s is n (eqb c 0) refl h r

above_sound : (k : ℕ) (is : List Item) → 0 < k → first_not_above k is ≡ 0 → AllAbove is
unfolding first_not_above
above_sound k [] p h = nil
above_sound k (i ∷ is) p h = go (above_sound (k + 1) is (omega arith)) (is_above_zero i) refl
  where
    go : (first_not_above (k + 1) is ≡ 0 → AllAbove is) → (t : Bool) → is_above_zero i ≡ t → AllAbove (i ∷ is)
    go rest true e = above_item i is e (rest (rw e at h))
    go rest false e = let z : k ≡ 0 = rw e at h in absurd (omega arith)

-- the condition holds exactly when the check finds no breach
pub kept_complete : {d : Condition} {is : List Item} → Kept d is → breach d is ≡ 0
unfolding breach
kept_complete nothing = refl
kept_complete (spaced {is} k) = spaced_complete is (is_zero_integer (get_or is 2 Item.blank)) refl k
kept_complete (factors a) = above_complete 1 a

pub kept_sound : (d : Condition) (is : List Item) → breach d is ≡ 0 → Kept d is
unfolding breach
kept_sound none is h = nothing
kept_sound zero_if_uneven is h = spaced (spaced_sound is h)
kept_sound above_zero is h = factors (above_sound 1 is (omega arith) h)
