-- One field and the fields of a row: each passes or is wrong as its number says, and the check stops at the first that is wrong.
use Rattle.std.specs.Prelude.{◌≡◌, Bool, true, false, ℕ, ◌+◌, ◌≤◌, ◌<◌, take, drop, Ok, Err}
use Rattle.std.proofs.Math.Path.{refl}
use Rattle.std.proofs.Common.{sym, ◌∙◌, arith}
use mathlib.Core.List.{List, [], ◌∷◌}
use borrow.Author.Tests.{le-leb, lt-leb}
use Rattle.laws.specs.Choice.{pick}
use Rattle.laws.specs.ChoiceLaws.{false_not_true}
use Rattle.text.specs.Blank.{Blanks, all_blank}
use Rattle.text.specs.BlankLaws.{all_blank_complete, all_blank_sound}
use Rattle.text.specs.Parts.{signed}
use Rattle.integer.specs.Spelling.{IntegerSpelling, limit}
use Rattle.integer.specs.Integer.{Held, integer_of}
use Rattle.integer.proofs.IntegerLaws.{integer_of_value, integer_of_range, integer_of_blanks, integer_of_malformed, integer_of_complete, integer_of_blank, integer_of_otherwise}
use Rattle.integer.specs.declared.IntegerFault.TheVariants as I
use Rattle.real.specs.Real.{real_of}
use Rattle.real.proofs.RealLaws.{real_of_sound, real_of_blanks, real_of_malformed, real_of_complete, real_of_blank, real_of_otherwise}
use Rattle.real.specs.Real.{Real}
use Rattle.real.specs.declared.RealFault.TheVariants as R
use Rattle.codes.specs.Rule.{Rule, keeps}
use Rattle.codes.specs.Form.{Form, Optional, skip, text, identification, real, integer, never, within}
use Rattle.field.specs.Field.{columns_of, blank_in, may_blank, integer_number, real_number, field_number}
use Rattle.record_table.specs.Row.{Field}
use Rattle.record.specs.Check.{fields_fault}
use Rattle.record_laws.specs.Fault.{Required, always, mixed, Passes, skipped, a_text, an_identification, an_integer, left_blank_lem, a_real}
use Rattle.record_laws.specs.Fault.{FieldFault, text_blank, integer_blank, integer_malformed, out_of_range, against_rule, real_blank, real_malformed}
use Rattle.record_laws.specs.LookedLaws.{Looked, right, wrong, FieldsFrom, looked_first, FieldsLooked, fields_all}

-- columns that the test finds not blank are not blanks
pub not_blank : (cols : List ℕ) → all_blank cols ≡ false → Blanks cols → ⊥
not_blank cols e b = false_not_true (sym e ∙ all_blank_complete b)

pub blank_not : (cols : List ℕ) → (Blanks cols → ⊥) → all_blank cols ≡ false
blank_not cols n = by (all_blank cols) refl
  where
    by : (t : Bool) → all_blank cols ≡ t → all_blank cols ≡ false
    by true e = absurd (n (all_blank_sound cols e))
    by false e = e

-- One field: it passes, or it is wrong as its number says.

module _ (line : List ℕ) where
  -- a refusal has a number
  pub fault_some : {n : ℕ} {f : Form} {cols : List ℕ} → FieldFault line n f cols → 0 < n
  fault_some (text_blank b) = omega arith
  fault_some (integer_blank b o) = omega arith
  fault_some (integer_malformed b s) = omega arith
  fault_some (out_of_range s h) = omega arith
  fault_some (against_rule s h k) = omega arith
  fault_some (real_blank b) = omega arith
  fault_some (real_malformed b s) = omega arith

  abbrev LookedAs : Form → List ℕ → ℕ → Type 0
  LookedAs = Looked line (Passes line) (FieldFault line)

  found : {n : ℕ} {f : Form} {cols : List ℕ} → FieldFault line n f cols → LookedAs f cols n
  found w = wrong (fault_some w) w

  looked_text : (cols : List ℕ) (t : Bool) → all_blank cols ≡ t → LookedAs identification cols (pick t 9 0)
  looked_text cols true e = found (text_blank (all_blank_sound cols e))
  looked_text cols false e = right (an_identification (not_blank cols e))

  looked_real : (cols : List ℕ) (x : Real) → real_of cols ≡ x → LookedAs real cols (real_number x)
  looked_real cols (Err R.Blank) e = found (real_blank (real_of_blanks cols e))
  looked_real cols (Err R.Malformed) e = let m = real_of_malformed cols e in found (real_malformed m.0 m.1)
  looked_real cols (Ok v) e = right (a_real (real_of_sound cols v e).0)

  looked_blank : (r : Rule) (o : Optional) (cols : List ℕ) (t : Bool) → blank_in o line ≡ t → Blanks cols → LookedAs (integer r o) cols (pick t 0 24)
  looked_blank r never cols true e b = false_not_true e
  looked_blank r never cols false e b = found (integer_blank b always)
  looked_blank r (within a p) cols true e b = right (left_blank_lem b (all_blank_sound (columns_of a p line) e))
  looked_blank r (within a p) cols false e b = found (integer_blank b (mixed (not_blank (columns_of a p line) e)))

  looked_value : (r : Rule) (o : Optional) (cols : List ℕ) {n : Bool} {v : ℕ} (t : Bool) → keeps r (signed n v) ≡ t
      → IntegerSpelling n v cols → v ≤ limit n → LookedAs (integer r o) cols (pick t 0 11)
  looked_value r o cols true e s h = right (an_integer s h e)
  looked_value r o cols false e s h = found (against_rule s h e)

  looked_integer : (r : Rule) (o : Optional) (cols : List ℕ) (i : Held) → integer_of cols ≡ i → LookedAs (integer r o) cols (integer_number r (blank_in o line) i)
  looked_integer r o cols (Err I.Blank) e = looked_blank r o cols (blank_in o line) refl (integer_of_blanks cols e)
  looked_integer r o cols (Err I.Malformed) e = let m = integer_of_malformed cols e in found (integer_malformed m.0 m.1)
  looked_integer r o cols (Err I.OutOfRange) e = let (n, v, s, h) = integer_of_range cols e in found (out_of_range s h)
  looked_integer r o cols (Ok i) e =
      let s = integer_of_value cols i.minus i.size e in looked_value r o cols (keeps r (signed i.minus i.size)) refl s.0 s.1

  looked : (f : Form) (cols : List ℕ) → LookedAs f cols (field_number f (may_blank f line) cols)
  unfolding field_number may_blank
  looked skip cols = right skipped
  looked text cols = right a_text
  looked identification cols = looked_text cols (all_blank cols) refl
  looked real cols = looked_real cols (real_of cols) refl
  looked (integer r o) cols = looked_integer r o cols (integer_of cols) refl

  -- the check passes a field only where it passes, and refuses it only for what is wrong
  pub number_passes : (f : Form) (cols : List ℕ) → field_number f (may_blank f line) cols ≡ 0 → Passes line f cols
  number_passes f cols e = of (looked f cols) e
    where
      of : {n : ℕ} → LookedAs f cols n → n ≡ 0 → Passes line f cols
      of (right p) e = p
      of (wrong s w) e = absurd (omega arith)

  pub number_fault : (f : Form) (cols : List ℕ) → 0 < field_number f (may_blank f line) cols → FieldFault line (field_number f (may_blank f line) cols) f cols
  number_fault f cols p = of (looked f cols) p
    where
      of : {n : ℕ} → LookedAs f cols n → 0 < n → FieldFault line n f cols
      of (right q) p = absurd (omega arith)
      of (wrong s w) p = w

  -- the other way: the number of a field that passes, and of one that is wrong
  not_named : {o : Optional} → Required line o → blank_in o line ≡ false
  not_named always = refl
  not_named (mixed {a} {e} n) = blank_not (columns_of a e line) n

  pub passes_number : {f : Form} {cols : List ℕ} → Passes line f cols → field_number f (may_blank f line) cols ≡ 0
  unfolding field_number may_blank
  passes_number skipped = refl
  passes_number a_text = refl
  passes_number (an_identification {cols} n) = rw (blank_not cols n) refl
  passes_number (an_integer {n = n} {v = v} s h k) = rw (integer_of_complete s, le-leb v (limit n) h, k) refl
  passes_number (left_blank_lem b o) = rw (integer_of_blank b, all_blank_complete o) refl
  passes_number (a_real s) = rw (real_of_complete s) refl

  pub fault_number : {n : ℕ} {f : Form} {cols : List ℕ} → FieldFault line n f cols → field_number f (may_blank f line) cols ≡ n
  unfolding field_number may_blank
  fault_number (text_blank b) = rw (all_blank_complete b) refl
  fault_number (integer_blank b o) = rw (integer_of_blank b, not_named o) refl
  fault_number (integer_malformed {cols = cols} b s) = rw (integer_of_otherwise cols b s) refl
  fault_number (out_of_range {n = n} {v = v} s h) = rw (integer_of_complete s, lt-leb v (limit n) h) refl
  fault_number (against_rule {n = n} {v = v} s h k) = rw (integer_of_complete s, le-leb v (limit n) h, k) refl
  fault_number (real_blank b) = rw (real_of_blank b) refl
  fault_number (real_malformed {cols} b s) = rw (real_of_otherwise cols b s) refl

  -- no field passes and is wrong, and none is wrong in two ways
  pub not_both : {n : ℕ} {f : Form} {cols : List ℕ} → Passes line f cols → FieldFault line n f cols → ⊥
  not_both p w = omega (arith, fault_some w, sym (passes_number p) ∙ fault_number w)

  pub one_way : {n m : ℕ} {f : Form} {cols : List ℕ} → FieldFault line n f cols → FieldFault line m f cols → n ≡ m
  one_way v w = sym (fault_number v) ∙ fault_number w

  -- The fields of a row.

  fields_from : (at : ℕ) (fs : List Field) → FieldsFrom line (Passes line) (FieldFault line) at fs (fields_fault fs at line)
  unfolding fields_fault
  fields_from at [] = right (λ j h. absurd (omega arith))
  fields_from at (f ∷ fs) =
      looked_first line (Passes line) (FieldFault line) at f fs _ (looked f.form (take f.width (drop at line))) (fields_from (at + f.width) fs)

  pub fields_looked : (fs : List Field) → FieldsLooked line (Passes line) (FieldFault line) fs (fields_fault fs 0 line)
  fields_looked fs = fields_all line (Passes line) (FieldFault line) fs (fields_from 0 fs)
