-- The check of a line by its row refuses it for what is wrong with it, and for nothing else.
use Rattle.std.specs.Prelude.{◌≡◌, Bool, List, ℕ, zero, suc, ◌≤◌, ◌<◌, length}
use Rattle.std.proofs.Math.Path.{refl}
use Rattle.std.proofs.Common.{sym, ◌∙◌, arith}
use Rattle.std.proofs.Math.Bool.{true, false}
use Rattle.laws.specs.ChoiceLaws.{false_not_true}
use Rattle.text.specs.Blank.{Blanks, all_blank}
use Rattle.text.specs.BlankLaws.{all_blank_complete, all_blank_sound}
use Rattle.line.specs.Line.{passed}
use Rattle.line.specs.declared.Refusal.{Refusal}
use Rattle.record_table.specs.Row.{Row, with_padding}
use Rattle.record.specs.Check.{otherwise, stray_fault, stray, condition_fault, fields_refusal, remainder_in, taken, taken_refusal, row_refusal}
use Rattle.record.specs.CheckLaws.{or_else_here}
use Rattle.record.specs.TakenLaws.{taken_blank, taken_filled}
use Rattle.record_laws.specs.Fault.{First, FieldFault, Passes, AllPass, Stray, Breaks, TakenFault, RowFault}
use Rattle.record_laws.specs.FieldFaultLaws.{fault_some, not_both, one_way, fields_looked}
use Rattle.record_laws.specs.LookedLaws.{first_same, FieldsLooked, right, wrong, same_field}
use Rattle.record_laws.specs.StrayLaws.{stray_first, stray_none}
use Rattle.record_laws.specs.BreaksLaws.{Asked, kept, broken}

module _ (r : Row) (line : List ℕ) where
  -- a row takes a line, or refuses it for what is wrong
  data Looked : Refusal → Type 0 where
    accepted : AllPass line r.fields → ((c : ℕ) → Stray line r.fields c → ⊥)
        → ((k : ℕ) → Breaks line r.fields r.condition k → ⊥) → Looked passed
    refused : {f : Refusal} → TakenFault r line f → Looked f

  -- a refusal has a number
  row_some : {f : Refusal} → TakenFault r line f → 0 < f.number
  row_some (TakenFault.field n k h p w) = fault_some line w
  row_some (TakenFault.stray c p s) = omega arith
  row_some (TakenFault.condition k p n b) = omega arith

  -- two refusals of a line are the same
  same : {f g : Refusal} → TakenFault r line f → TakenFault r line g → f ≡ g
  same (TakenFault.field n k h p v) (TakenFault.field m j g q w) = same_field line (Passes line) (FieldFault line) r.fields (λ n f c. not_both line) (λ n m f c. one_way line) p v q w
  same (TakenFault.field n k h p v) (TakenFault.stray c q s) = absurd (not_both line (q k h) v)
  same (TakenFault.field n k h p v) (TakenFault.condition j q s b) = absurd (not_both line (q k h) v)
  same (TakenFault.stray c p s) (TakenFault.field m j g q w) = absurd (not_both line (p j g) w)
  same (TakenFault.stray c p s) (TakenFault.stray d q t) = rw (first_same s t) refl
  same (TakenFault.stray c p s) (TakenFault.condition j q t b) = absurd (t c s.here)
  same (TakenFault.condition k p s b) (TakenFault.field m j g q w) = absurd (not_both line (p j g) w)
  same (TakenFault.condition k p s b) (TakenFault.stray d q t) = absurd (s d t.here)
  same (TakenFault.condition k p s b) (TakenFault.condition j q t d) = rw (first_same b d) refl

  -- a line that is taken has none
  not_taken : {f : Refusal} → AllPass line r.fields → ((c : ℕ) → Stray line r.fields c → ⊥)
      → ((k : ℕ) → Breaks line r.fields r.condition k → ⊥) → TakenFault r line f → ⊥
  not_taken p n b (TakenFault.field m k h q w) = not_both line (p k h) w
  not_taken p n b (TakenFault.stray c q s) = n c s.here
  not_taken p n b (TakenFault.condition k q s c) = b k c.here

  by_condition : AllPass line r.fields → ((c : ℕ) → Stray line r.fields c → ⊥) → {f : Refusal} → Asked r line f → Looked f
  by_condition p n (kept b) = accepted p n b
  by_condition p n (broken k b) = refused (TakenFault.condition k p n b)

  by_stray : AllPass line r.fields → (c : ℕ) → (0 < c → First (Stray line r.fields) c)
      → (c ≡ 0 → (c : ℕ) → Stray line r.fields c → ⊥) → Asked r line (condition_fault r line) → Looked (otherwise (stray_fault c) (condition_fault r line))
  by_stray p zero some none a = by_condition p (none refl) a
  by_stray p (suc c) some none a = refused (TakenFault.stray (suc c) p (some (omega arith)))

  module _ (short : length line ≤ 80) (a : AllPass line r.fields → Asked r line (condition_fault r line)) where
    by_fields : {g : Refusal} → FieldsLooked line (Passes line) (FieldFault line) r.fields g
        → Looked (otherwise (otherwise g (stray_fault (stray r.fields 0 line))) (condition_fault r line))
    by_fields (right p) = by_stray p (stray r.fields 0 line) (stray_first line short r.fields) (stray_none line short r.fields) (a p)
    by_fields (wrong n k h p s w) =
        rw (or_else_here n _ (stray_fault (stray r.fields 0 line)) s, or_else_here n _ (condition_fault r line) s) (refused (TakenFault.field n k h p w))

    looked : Looked (taken_refusal r line)
    unfolding taken_refusal fields_refusal
    looked = by_fields (fields_looked line r.fields)

    -- what a line is refused for is wrong with it
    taken_refusal_fault : 0 < (taken_refusal r line).number → TakenFault r line (taken_refusal r line)
    taken_refusal_fault p = of looked p
      where
        of : {f : Refusal} → Looked f → 0 < f.number → TakenFault r line f
        of (accepted q n b) p = absurd (omega arith)
        of (refused w) p = w

    -- and a line with something wrong is refused for it
    taken_refusal_only : {f : Refusal} → TakenFault r line f → (taken_refusal r line ≡ f) × (0 < f.number)
    taken_refusal_only w = (of looked w, row_some w)
      where
        of : {f g : Refusal} → Looked g → TakenFault r line f → g ≡ f
        of (accepted p n b) w = absurd (not_taken p n b w)
        of (refused v) w = same v w

-- by a row, with its padding or without
module _ (r : Row) (line : List ℕ) (short : length line ≤ 80)
    (a : AllPass line r.fields → Asked r line (condition_fault r line))
    (b : AllPass line (with_padding r).fields → Asked (with_padding r) line (condition_fault (with_padding r) line)) where
  unblank : all_blank (remainder_in r line) ≡ false → Blanks (remainder_in r line) → ⊥
  unblank e n = false_not_true (sym e ∙ all_blank_complete n)

  -- what a line is refused for is wrong with it
  pub row_refusal_fault : 0 < (row_refusal r line).number → RowFault r line (row_refusal r line)
  unfolding row_refusal
  row_refusal_fault p = by (all_blank (remainder_in r line)) refl
    where
      by : (t : Bool) → all_blank (remainder_in r line) ≡ t → RowFault r line (taken_refusal (taken r line) line)
      by true e =
          let q = taken_blank r line e in
          rw q (RowFault.alone (all_blank_sound _ e) (taken_refusal_fault r line short a (rw q at p)))
      by false e =
          let q = taken_filled r line e in
          rw q (RowFault.padded (unblank e) (taken_refusal_fault (with_padding r) line short b (rw q at p)))

  -- and a line with something wrong is refused for it
  pub row_refusal_only : {f : Refusal} → RowFault r line f → (row_refusal r line ≡ f) × (0 < f.number)
  unfolding row_refusal
  row_refusal_only (RowFault.alone n w) = rw (taken_blank r line (all_blank_complete n)) (taken_refusal_only r line short a w)
  row_refusal_only (RowFault.padded n w) =
      rw (taken_filled r line (filled (all_blank (remainder_in r line)) refl)) (taken_refusal_only (with_padding r) line short b w)
    where
      filled : (t : Bool) → all_blank (remainder_in r line) ≡ t → all_blank (remainder_in r line) ≡ false
      filled true e = absurd (n (all_blank_sound _ e))
      filled false e = e
