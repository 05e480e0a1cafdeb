-- Where the forms of the table may be left blank, and which of them are integers.
use Rattle.std.specs.Prelude.{◌≡◌, refl, Bool, true, false, ◌&&◌, List, ℕ, zero, suc, ◌≤◌, ◌<◌, leb, ltb, eqb, Err, Ok}
use Rattle.std.proofs.Common.{sym, ⊎_elim, arith, leb-true, ne_eqb}
use Rattle.laws.specs.Choice.{pick}
use Rattle.laws.specs.ChoiceLaws.{and_left, and_right, false_not_true, below_or_not}
use Rattle.laws.specs.RangesLaws.{in_range}
use Rattle.text.specs.Blank.{all_blank}
use Rattle.integer.specs.Integer.{Held, valued, integer_of}
use Rattle.codes.specs.Form.{Form, Optional, skip, text, identification, real, integer, never, within, forms, form_of, optional_of, rule_of, allowed_of, blank_from, blank_past, last_form}
use Rattle.codes.specs.Rule.{Rule}
use Rattle.codes.specs.FormLaws.{form_of_past}
use Rattle.field.specs.Field.{columns_of, blank_in, may_blank, integer_number, field_number, integer_item, answered}
use Rattle.field.specs.Item.{is_zero_integer}
use Rattle.integer.specs.declared.IntegerFault.TheVariants.{Blank}

-- the columns named are some, and lie inside the line
abbrev inside : Optional → Bool
inside never = true
inside (within a e) = ltb a e && leb e 80

abbrev test : ℕ → Bool
test k = inside (optional_of (form_of k))

tested : (k : ℕ) → test k ≡ true
unfolding form_of forms
tested k = ⊎_elim (λ h. in_range test true 0 (suc last_form) k refl (omega arith) h) (λ h. rw (form_of_past k h) refl) (below_or_not k (suc last_form))

inside_past : (o : Optional) → inside o ≡ true → blank_past o ≤ 80
inside_past never t = omega arith
inside_past (within a e) t = leb-true e 80 (and_right (ltb a e) (leb e 80) t)

pub blank_past_inside : (k : ℕ) → blank_past (optional_of (form_of k)) ≤ 80
blank_past_inside k = inside_past (optional_of (form_of k)) (tested k)

blank_in_some : (o : Optional) (line : List ℕ) → blank_from o < blank_past o → blank_in o line ≡ all_blank (columns_of (blank_from o) (blank_past o) line)
blank_in_some never line h = absurd (omega arith)
blank_in_some (within a e) line h = refl

blank_in_none : (o : Optional) (line : List ℕ) → inside o ≡ true → blank_past o ≤ blank_from o → blank_in o line ≡ false
blank_in_none never line t h = refl
blank_in_none (within a e) line t h = let l : a < e = leb-true _ _ (and_left (ltb a e) (leb e 80) t) in absurd (omega arith)

module _ (k : ℕ) (line : List ℕ) where
  pub may_blank_some : blank_from (optional_of (form_of k)) < blank_past (optional_of (form_of k))
      → may_blank (form_of k) line ≡ all_blank (columns_of (blank_from (optional_of (form_of k))) (blank_past (optional_of (form_of k))) line)
  unfolding may_blank
  may_blank_some h = blank_in_some (optional_of (form_of k)) line h

  pub may_blank_none : blank_past (optional_of (form_of k)) ≤ blank_from (optional_of (form_of k)) → may_blank (form_of k) line ≡ false
  unfolding may_blank
  may_blank_none h = blank_in_none (optional_of (form_of k)) line (tested k) h

-- the integers are the forms from 4 to the last
abbrev is_integer : Form → Bool
is_integer skip = false
is_integer text = false
is_integer identification = false
is_integer real = false
is_integer (integer r o) = true

field_number_of : (f : Form) (may : Bool) (cols : List ℕ) → is_integer f ≡ true → field_number f may cols ≡ integer_number (rule_of f) may (integer_of cols)
unfolding field_number
field_number_of skip may cols t = false_not_true t
field_number_of text may cols t = false_not_true t
field_number_of identification may cols t = false_not_true t
field_number_of real may cols t = false_not_true t
field_number_of (integer r o) may cols t = refl

abbrev number : ℕ → Bool
number k = is_integer (form_of k)

pub field_number_integer : (k : ℕ) (may : Bool) (cols : List ℕ) → 4 ≤ k → k ≤ last_form → field_number (form_of k) may cols ≡ integer_number (rule_of (form_of k)) may (integer_of cols)
unfolding form_of forms
field_number_integer k may cols a b = field_number_of (form_of k) may cols (in_range number true 4 27 k refl a (omega arith))

-- skipped columns and texts that may be blank, the forms 0 and 1 and those past the last, are never refused
pub field_number_low : (k : ℕ) (may : Bool) (cols : List ℕ) → k < 2 → field_number (form_of k) may cols ≡ 0
unfolding field_number form_of forms
field_number_low zero may cols h = refl
field_number_low (suc zero) may cols h = refl
field_number_low (suc (suc k)) may cols h = absurd (omega arith)

pub field_number_past : (k : ℕ) (may : Bool) (cols : List ℕ) → last_form < k → field_number (form_of k) may cols ≡ 0
unfolding field_number
field_number_past k may cols h = rw (form_of_past k h) refl

-- an integer that is 0, by its size
pub is_zero_integer_value : (n : Bool) (v : ℕ) → is_zero_integer (integer_item (valued n v)) ≡ eqb v 0
is_zero_integer_value true zero = refl
is_zero_integer_value true (suc v) = sym (ne_eqb (suc v) 0 (λ e. omega arith))
is_zero_integer_value false v = refl

-- the number of an integer field that holds an integer, by the test that decides
pub integer_number_value : (k : ℕ) (may t : Bool) (n : Bool) (v : ℕ) {i : Held} → i ≡ valued n v → allowed_of k n v ≡ t → integer_number (rule_of (form_of k)) may i ≡ pick t 0 11
unfolding allowed_of
integer_number_value k may t n v e m = rw (e, m) refl

-- the number, by the answer
pub answered_ok : (n : ℕ) → Ok tt ≡ answered n → n ≡ 0
answered_ok zero h = refl
answered_ok (suc n) h = absurd (grind arith)

pub answered_err : (n m : ℕ) → Err m ≡ answered n → (m ≡ n) × (0 < n)
answered_err zero m h = absurd (grind arith)
answered_err (suc n) m h = (grind arith, omega arith)
