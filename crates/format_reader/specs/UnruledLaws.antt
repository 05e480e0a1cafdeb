-- A record's check with 9 and 11 overlooked is the question's, and the line's refusal by what it finds.
use Rattle.std.specs.Prelude.{◌≡◌, Bool, true, false, ◌||◌, List, [], ◌∷◌, ℕ, zero, suc, ◌+◌, ◌≤◌, ◌<◌, eqb, take, drop}
use Rattle.std.proofs.Math.Path.{refl}
use Rattle.std.proofs.Common.{sym, ◌∙◌, arith, eqb-true, eq-eqb, ne_eqb}
use Rattle.laws.specs.Choice.{above_zero, pick}
use Rattle.laws.specs.ChoiceLaws.{above_zero_none, above_zero_some, false_not_true}
use Rattle.line.specs.Line.{refusal, passed}
use Rattle.line.specs.declared.Refusal.{Refusal}
use Rattle.field.specs.Field.{may_blank, field_number}
use Rattle.record_table.specs.Row.{Field}
use Rattle.record.specs.Check.{stray_fault, stray}
use Rattle.record.specs.CheckLaws.{otherwise_here, otherwise_on}
use Rattle.record.specs.Overlooked.{number_but, fault_but, refusal_but}
use Rattle.format_reader.specs.Unruled.{looked_at, unruled_number, unruled_fault, unruled_refusal}

swap : (a b : ℕ) → eqb a b ≡ eqb b a
swap a b = by (eqb b a) refl
  where
    by : (t : Bool) → eqb b a ≡ t → eqb a b ≡ t
    by true e = eq-eqb a b (sym (eqb-true b a e))
    by false e = ne_eqb a b (λ h. false_not_true (sym e ∙ eq-eqb b a (sym h)))

pub looked_but : (n : ℕ) → number_but (9 ∷ 11 ∷ []) n ≡ looked_at n
unfolding number_but looked_at
looked_but n = rw (swap 9 n, swap 11 n) (by (eqb n 9) (eqb n 11))
  where
    by : (a b : Bool) → pick (a || (b || false)) 0 n ≡ pick (a || b) 0 n
    by true b = refl
    by false true = refl
    by false false = refl

pub fault_unruled : (fs : List Field) (at : ℕ) (line : List ℕ) → fault_but (9 ∷ 11 ∷ []) fs at line ≡ unruled_fault fs at line
unfolding fault_but unruled_fault unruled_number
fault_unruled [] at line = refl
fault_unruled (f ∷ fs) at line =
    rw (looked_but (field_number f.form (may_blank f.form line) (take f.width (drop at line))), fault_unruled fs (at + f.width) line) refl

pub refusal_unruled : (fs : List Field) (line : List ℕ) → refusal_but (9 ∷ 11 ∷ []) fs line ≡ unruled_refusal fs line
unfolding refusal_but unruled_refusal
refusal_unruled fs line = rw (fault_unruled fs 0 line) refl

module _ (fs : List Field) (line : List ℕ) (f : Refusal) (e : f ≡ unruled_fault fs 0 line) where
  pub unruled_refusal_field : 0 < f.number → unruled_refusal fs line ≡ f
  unfolding unruled_refusal
  unruled_refusal_field p = rw (← e) (otherwise_here f _ p)

  module _ (n : f.number ≤ 0) (c : ℕ) (q : c ≡ stray fs 0 line) where
    pub unruled_refusal_stray : unruled_refusal fs line ≡ stray_fault c
    unfolding unruled_refusal
    unruled_refusal_stray = rw (← e, ← q) (otherwise_on f _ n)

pub strayed : (c : ℕ) → 0 < c → stray_fault c ≡ refusal 13 c
strayed zero p = absurd (omega arith)
strayed (suc c) p = refl

pub clear : (c : ℕ) → c ≤ 0 → stray_fault c ≡ passed
clear zero p = refl
clear (suc c) p = absurd (omega arith)
