-- Fields looked at from left to right, each of which passes or is wrong: the search stops at the first that is wrong, and there is one such.
use Rattle.std.specs.Prelude.{◌≡◌, List, ◌∷◌, ℕ, zero, suc, ◌+◌, ◌≤◌, ◌<◌, length, take, drop}
use Rattle.std.proofs.Math.Path.{refl}
use Rattle.std.proofs.Common.{ap, ⊎_elim, zero-add}
use native.Mathlib.Omega.{arith}
use Rattle.std.proofs.Math.Nat.{add-zero}
use Rattle.laws.specs.ChoiceLaws.{below_or_not}
use Rattle.line.specs.Line.{refusal, passed}
use Rattle.line.specs.declared.Refusal.{Refusal}
use Rattle.codes.specs.Form.{Form}
use Rattle.layout.specs.Columns.{field_start}
use Rattle.record_table.specs.Row.{Field}
use Rattle.record.specs.Check.{or_else}
use Rattle.record.specs.CheckLaws.{or_else_here}
use Rattle.record_laws.specs.Fault.{field_at, left_of, own_columns, First}

-- the first number of which something holds is one
pub first_same : {P : ℕ → Type 0} {k j : ℕ} → First P k → First P j → k ≡ j
first_same {k = k} {j} a b =
    ⊎_elim (λ (h : k < j). absurd (b.before k h a.here))
    (λ (h : j ≤ k). ⊎_elim (λ (g : j < k). absurd (a.before j g b.here)) (λ (g : k ≤ j). omega arith) (below_or_not j k))
    (below_or_not k j)

module _ (line : List ℕ) (Pass : Form → List ℕ → Type 0) (Wrong : ℕ → Form → List ℕ → Type 0) where
  -- one field
  pub data Looked (f : Form) (cols : List ℕ) : ℕ → Type 0 where
    right : Pass f cols → Looked f cols 0
    wrong : {n : ℕ} → 0 < n → Wrong n f cols → Looked f cols n

  -- The fields of a row, from the column after `at` on.

  abbrev pub columns_from : ℕ → List Field → ℕ → List ℕ
  columns_from at fs k = take (field_at fs k).width (drop (at + left_of fs k) line)

  abbrev pub PassFrom : ℕ → List Field → ℕ → Type 0
  PassFrom at fs k = (j : ℕ) → j < k → Pass (field_at fs j).form (columns_from at fs j)

  pub data FieldsFrom (at : ℕ) (fs : List Field) : Refusal → Type 0 where
    right : PassFrom at fs (length fs) → FieldsFrom at fs passed
    wrong : (n k : ℕ) → k < length fs → PassFrom at fs k → 0 < n → Wrong n (field_at fs k).form (columns_from at fs k)
        → FieldsFrom at fs (refusal n (at + left_of fs k + 1))

  module _ (at : ℕ) (f : Field) (fs : List Field) where
    -- the first field's columns, and a later one's
    own_first : columns_from at (f ∷ fs) 0 ≡ take f.width (drop at line)
    unfolding field_start
    own_first = rw (add-zero at) refl

    left_first : at + left_of (f ∷ fs) 0 ≡ at
    unfolding field_start
    left_first = add-zero at

    left_next : (k : ℕ) → at + left_of (f ∷ fs) (suc k) ≡ at + f.width + left_of fs k
    unfolding field_start
    left_next k = omega arith

    own_next : (k : ℕ) → columns_from at (f ∷ fs) (suc k) ≡ columns_from (at + f.width) fs k
    own_next k = ap (λ (x : ℕ). take (field_at fs k).width (drop x line)) (left_next k)

    pass_next : (k : ℕ) → Pass f.form (take f.width (drop at line)) → PassFrom (at + f.width) fs k → PassFrom at (f ∷ fs) (suc k)
    pass_next k p ps zero h = rw own_first p
    pass_next k p ps (suc j) h = rw (own_next j) (ps j (omega arith))

    looked_later : {g : Refusal} → Pass f.form (take f.width (drop at line)) → FieldsFrom (at + f.width) fs g → FieldsFrom at (f ∷ fs) g
    looked_later p (right ps) = right (pass_next (length fs) p ps)
    looked_later p (wrong n k h ps s w) =
        let here : FieldsFrom at (f ∷ fs) (refusal n (at + left_of (f ∷ fs) (suc k) + 1)) = wrong n (suc k) (omega arith) (pass_next k p ps) s (rw (own_next k) w) in
        rw (left_next k) at here

    pub looked_first : (rest : Refusal) {n : ℕ} → Looked f.form (take f.width (drop at line)) n → FieldsFrom (at + f.width) fs rest
        → FieldsFrom at (f ∷ fs) (or_else n (at + 1) rest)
    looked_first rest (right p) r = looked_later p r
    looked_first rest (wrong {n} s w) r =
        let here : FieldsFrom at (f ∷ fs) (refusal n (at + left_of (f ∷ fs) 0 + 1)) = wrong n 0 (omega arith) (λ j h. absurd (omega arith)) s (rw own_first w) in
        rw (or_else_here n (at + 1) rest s) (rw left_first at here)

  -- All fields.

  abbrev pub PassUpTo : List Field → ℕ → Type 0
  PassUpTo fs k = (j : ℕ) → j < k → Pass (field_at fs j).form (own_columns line fs j)

  pub data FieldsLooked (fs : List Field) : Refusal → Type 0 where
    right : PassUpTo fs (length fs) → FieldsLooked fs passed
    wrong : (n k : ℕ) → k < length fs → PassUpTo fs k → 0 < n → Wrong n (field_at fs k).form (own_columns line fs k)
        → FieldsLooked fs (refusal n (left_of fs k + 1))

  module _ (fs : List Field) where
    pass_all : (k : ℕ) → PassFrom 0 fs k → PassUpTo fs k
    pass_all k p j h = rw (zero-add (left_of fs j)) at (p j h)

    pub fields_all : {g : Refusal} → FieldsFrom 0 fs g → FieldsLooked fs g
    fields_all (right p) = right (pass_all (length fs) p)
    fields_all (wrong n k h p s w) = rw (zero-add (left_of fs k)) (wrong n k h (pass_all k p) s (rw (zero-add (left_of fs k)) at w))

    -- no field passes and is wrong, and none is wrong in two ways
    module _ (not_both : (n : ℕ) (f : Form) (cols : List ℕ) → Pass f cols → Wrong n f cols → ⊥)
        (one_way : (n m : ℕ) (f : Form) (cols : List ℕ) → Wrong n f cols → Wrong m f cols → n ≡ m) where
      pub same_field : {n m k j : ℕ} → PassUpTo fs k → Wrong n (field_at fs k).form (own_columns line fs k)
          → PassUpTo fs j → Wrong m (field_at fs j).form (own_columns line fs j) → refusal n (left_of fs k + 1) ≡ refusal m (left_of fs j + 1)
      same_field {n} {m} {k} {j} p v q w =
          ⊎_elim (λ (h : k < j). absurd (not_both _ _ _ (q k h) v))
          (λ (h : j ≤ k). ⊎_elim (λ (g : j < k). absurd (not_both _ _ _ (p j g) w)) (λ (g : k ≤ j). alike (omega arith)) (below_or_not j k))
          (below_or_not k j)
        where
          alike : k ≡ j → refusal n (left_of fs k + 1) ≡ refusal m (left_of fs j + 1)
          alike e = let o : n ≡ m = one_way _ _ _ _ v (rw e w) in rw (o, e) refl
