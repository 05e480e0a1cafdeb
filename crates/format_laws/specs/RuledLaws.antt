-- The judge's refusal of a line by its row is the question's, or 9, 11 or 14.
use Rattle.std.specs.Prelude.{◌≡◌, ◌⊎◌, Bool, true, false, ◌||◌, eqb, take, drop}
use Rattle.std.proofs.Math.Path.{refl}
use Rattle.std.proofs.Common.{◌∙◌, arith, eqb-true}
use Rattle.std.proofs.Math.Logic.{inl, inr}
use mathlib.Core.List.{List, [], ◌∷◌}
use Prim.Native.Nat.{ℕ, zero, suc, ◌+◌}
use Rattle.laws.specs.Choice.{pick}
use Rattle.line.specs.Line.{refusal, passed}
use Rattle.line.specs.declared.Refusal.{Refusal}
use Rattle.field.specs.Field.{may_blank, field_number}
use Rattle.record_table.specs.Row.{Field, Row, breach}
use Rattle.record.specs.Check.{or_else, otherwise, fields_fault, stray, stray_fault, fields_refusal, items_of, breach_fault, condition_fault, taken, taken_refusal, row_refusal}
use Rattle.format_reader.specs.Unruled.{looked_at, unruled_number, unruled_fault, unruled_refusal}
use Rattle.format_laws.specs.Fault.{Ruled, nine, eleven, fourteen}

-- the first refusal is the second, or one that the second does not look at
abbrev pub Tied : Refusal → Refusal → Type 0
Tied judge question = Ruled judge.number ⊎ (question ≡ judge)

looked : (n : ℕ) → Ruled n ⊎ (looked_at n ≡ n)
unfolding looked_at
looked n = by (eqb n 9) (eqb n 11) refl refl
  where
    by : (a b : Bool) → eqb n 9 ≡ a → eqb n 11 ≡ b → Ruled n ⊎ (pick (a || b) 0 n ≡ n)
    by true b e f = inl (rw (eqb-true n 9 e) nine)
    by false true e f = inl (rw (eqb-true n 11 f) eleven)
    by false false e f = inr refl

-- in front of what follows
tied_first : (n c : ℕ) (f g : Refusal) → Ruled n ⊎ (looked_at n ≡ n) → Tied f g → Tied (or_else n c f) (or_else (looked_at n) c g)
unfolding looked_at
tied_first zero c f g p q = q
tied_first (suc n) c f g (inl r) q = inl r
tied_first (suc n) c f g (inr e) q = inr (rw e refl)

-- a refusal that is not looked at stands before what follows
ruled_first : (n c : ℕ) (f : Refusal) → Ruled n → Ruled (or_else n c f).number
ruled_first n c f nine = nine
ruled_first n c f eleven = eleven
ruled_first n c f fourteen = fourteen

module _ (line : List ℕ) where
  tied_fields : (fs : List Field) (at : ℕ) → Tied (fields_fault fs at line) (unruled_fault fs at line)
  unfolding fields_fault unruled_fault unruled_number
  tied_fields [] at = inr refl
  tied_fields (f ∷ fs) at =
      tied_first (field_number f.form (may_blank f.form line) (take f.width (drop at line))) (at + 1) _ _ (looked _) (tied_fields fs (at + f.width))

  tied_refusal : (fs : List Field) → Tied (fields_refusal fs line) (unruled_refusal fs line)
  unfolding fields_refusal unruled_refusal
  tied_refusal fs = by (tied_fields fs 0)
    where
      by : Tied (fields_fault fs 0 line) (unruled_fault fs 0 line)
          → Tied (otherwise (fields_fault fs 0 line) (stray_fault (stray fs 0 line))) (otherwise (unruled_fault fs 0 line) (stray_fault (stray fs 0 line)))
      by (inl r) = inl (ruled_first (fields_fault fs 0 line).number (fields_fault fs 0 line).column _ r)
      by (inr e) = inr (rw e refl)

  -- a refusal by the fields whose number is 0 is none
  stray_none : (c : ℕ) → (stray_fault c).number ≡ 0 → stray_fault c ≡ passed
  stray_none zero h = refl
  stray_none (suc c) h = absurd (omega arith)

  fields_none : (fs : List Field) → (fields_refusal fs line).number ≡ 0 → fields_refusal fs line ≡ passed
  unfolding fields_refusal
  fields_none fs h = by (fields_fault fs 0 line).number (fields_fault fs 0 line).column h
    where
      by : (n c : ℕ) → (or_else n c (stray_fault (stray fs 0 line))).number ≡ 0 → or_else n c (stray_fault (stray fs 0 line)) ≡ passed
      by zero c h = stray_none (stray fs 0 line) h
      by (suc n) c h = absurd (omega arith)

  -- and then what follows is 14 or none
  tied_breach : (fs : List Field) (b : ℕ) → Tied (breach_fault fs b) passed
  tied_breach fs zero = inr refl
  tied_breach fs (suc b) = inl fourteen

  tied_taken : (r : Row) → Tied (taken_refusal r line) (unruled_refusal r.fields line)
  unfolding taken_refusal condition_fault
  tied_taken r = by (tied_refusal r.fields)
    where
      b : ℕ
      b = breach r.condition (items_of r.fields 0 line)

      same : (n c : ℕ) (g : Refusal) → (n ≡ 0 → refusal n c ≡ passed) → g ≡ refusal n c → Tied (or_else n c (breach_fault r.fields b)) g
      same zero c g z e = rw (e ∙ z refl) (tied_breach r.fields b)
      same (suc n) c g z e = inr e

      by : Tied (fields_refusal r.fields line) (unruled_refusal r.fields line)
          → Tied (otherwise (fields_refusal r.fields line) (breach_fault r.fields (breach r.condition (items_of r.fields 0 line)))) (unruled_refusal r.fields line)
      by (inl q) = inl (ruled_first (fields_refusal r.fields line).number (fields_refusal r.fields line).column _ q)
      by (inr e) = same (fields_refusal r.fields line).number (fields_refusal r.fields line).column (unruled_refusal r.fields line) (fields_none r.fields) e

  -- by a row of which those fields are taken
  pub tied_row : (r : Row) → Tied (row_refusal r line) (unruled_refusal (taken r line).fields line)
  unfolding row_refusal
  tied_row r = tied_taken (taken r line)
