-- The turns of the loop over a line's fields, the line's refusal by what it finds, and that nothing is overlooked where no number is.
use Rattle.std.specs.Prelude.{Ok, Err, true, false, eqb, None, Some, ◌≡◌, List, [], ◌∷◌, ℕ, zero, suc, ◌+◌, ◌≤◌, ◌<◌, length, get_or, take, drop}
use Rattle.std.proofs.Math.Path.{refl}
use Rattle.std.proofs.Common.{sym, ◌∙◌, arith}
use Rattle.std.specs.List.{list_any}
use Rattle.laws.specs.ChoiceLaws.{pick_same}
use Rattle.line.specs.Line.{refusal, passed, verdict}
use Rattle.laws.specs.Choice.{above_zero}
use Rattle.line.specs.LineLaws.{ok_passed, err_refused}
use Rattle.laws.specs.ChoiceLaws.{above_zero_none, above_zero_some}
use Rattle.line.specs.declared.Refusal.{Refusal}
use Rattle.codes.specs.Form.{form_of}
use Rattle.field.specs.Field.{may_blank, field_number}
use Rattle.record_table.specs.Row.{Field}
use Rattle.record_table.specs.Records.{field_list}
use Rattle.record.specs.Check.{or_else, stray_fault, stray, fields_fault, fields_refusal}
use Rattle.record.specs.CheckLaws.{or_else_here, or_else_on, otherwise_err, otherwise_ok, field_list_stop, field_list_end, listed}
use Rattle.record.specs.Overlooked.{number_but, fault_but, refusal_but}

-- a number by whether it is among those overlooked
pub but_none : (os : List ℕ) → number_but os 0 ≡ 0
unfolding number_but
but_none os = pick_same _ 0

module _ (os : List ℕ) (n : ℕ) where
  pub but_overlooked : list_any (λ o. eqb o n) os ≡ true → number_but os n ≡ 0
  unfolding number_but
  but_overlooked t = rw t refl

  pub but_looked : list_any (λ o. eqb o n) os ≡ false → number_but os n ≡ n
  unfolding number_but
  but_looked t = rw t refl

-- one turn: field k, of width w, from the column at on
module _ (os ks ws line : List ℕ) (k at w : ℕ) (h : k < length ws) (l : length ws ≤ length ks) (q : w ≡ get_or ws k 0) where
  pub fault_stop : w ≡ 0 → fault_but os (field_list (drop k ks) (drop k ws)) at line ≡ passed
  unfolding fault_but
  fault_stop e = rw (field_list_stop ks ws k h l (sym q ∙ e)) refl

  module _ (z : w ≡ 0 → ⊥) where
    module _ (n : ℕ) (e : n ≡ number_but os (field_number (form_of (get_or ks k 0)) (may_blank (form_of (get_or ks k 0)) line) (take w (drop at line)))) where
      turn : fault_but os (field_list (drop k ks) (drop k ws)) at line
          ≡ or_else n (at + 1) (fault_but os (field_list (drop (k + 1) ks) (drop (k + 1) ws)) (at + w) line)
      unfolding fault_but
      turn = rw (listed ks ws line k at w h l q z) (rw (← e) refl)

      pub fault_here : 0 < n → fault_but os (field_list (drop k ks) (drop k ws)) at line ≡ refusal n (at + 1)
      fault_here p = turn ∙ or_else_here n (at + 1) _ p

      pub fault_on : n ≤ 0 → fault_but os (field_list (drop k ks) (drop k ws)) at line
          ≡ fault_but os (field_list (drop (k + 1) ks) (drop (k + 1) ws)) (at + w) line
      fault_on p = turn ∙ or_else_on n (at + 1) _ p

pub fault_end : (os ks ws line : List ℕ) (k at : ℕ) → length ws ≤ k → fault_but os (field_list (drop k ks) (drop k ws)) at line ≡ passed
unfolding fault_but
fault_end os ks ws line k at h = rw (field_list_end ks ws k h) refl

-- what is answered of these
strayed : (c : ℕ) → 0 < c → stray_fault c ≡ refusal 13 c
strayed zero p = absurd (omega arith)
strayed (suc c) p = refl

clear : (c : ℕ) → c ≤ 0 → stray_fault c ≡ passed
clear zero p = refl
clear (suc c) p = absurd (omega arith)

module _ (os : List ℕ) (fs : List Field) (line : List ℕ) where
  pub refused_field : {r : Refusal} → Err r ≡ verdict (fault_but os fs 0 line) → Err r ≡ verdict (refusal_but os fs line)
  unfolding refusal_but
  refused_field e = otherwise_err (fault_but os fs 0 line) _ e

  module _ (e : Ok tt ≡ verdict (fault_but os fs 0 line)) where
    by_stray : refusal_but os fs line ≡ stray_fault (stray fs 0 line)
    unfolding refusal_but
    by_stray = otherwise_ok (fault_but os fs 0 line) _ e

    pub refused_stray : {c : ℕ} → Some c ≡ above_zero (stray fs 0 line) → Err (refusal 13 c) ≡ verdict (refusal_but os fs line)
    refused_stray {c} s =
        let p = above_zero_some _ c s in
        err_refused (by_stray ∙ rw (← p.0) (strayed c p.1)) (omega arith)

    pub refused_none : None ≡ above_zero (stray fs 0 line) → Ok tt ≡ verdict (refusal_but os fs line)
    refused_none s = ok_passed (by_stray ∙ clear _ (omega (arith, above_zero_none _ s)))

-- where no number is overlooked, this is the check of a record's fields
pub fault_whole : (fs : List Field) (at : ℕ) (line : List ℕ) → fault_but [] fs at line ≡ fields_fault fs at line
unfolding fault_but fields_fault number_but
fault_whole [] at line = refl
fault_whole (f ∷ fs) at line = rw (fault_whole fs (at + f.width) line) refl

pub refusal_whole : (fs : List Field) (line : List ℕ) → refusal_but [] fs line ≡ fields_refusal fs line
unfolding refusal_but fields_refusal
refusal_whole fs line = rw (fault_whole fs 0 line) refl
