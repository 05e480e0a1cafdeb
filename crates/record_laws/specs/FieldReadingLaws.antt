-- One field: its columns pass the check exactly when its item stands in them, or they are skipped and blank.
use Rattle.std.specs.Prelude.{◌≡◌, Bool, true, List, [], ◌∷◌, ℕ, ◌+◌, ◌≤◌, ◌<◌, eqb, Ok, Err}
use Rattle.std.proofs.Math.Path.{refl}
use Rattle.std.proofs.Common.{sym, ◌∙◌, arith, eqb-true, le-leb}
use Rattle.std.proofs.Math.Bool.{false}
use Rattle.laws.specs.Choice.{pick}
use Rattle.laws.specs.ChoiceLaws.{pick_passed}
use Rattle.text.specs.Blank.{Blanks, none, one, all_blank}
use Rattle.text.specs.BlankLaws.{all_blank_complete, all_blank_sound}
use Rattle.text.specs.Text.{TextIn, text_in_lem, empty, trimmed}
use Rattle.text.proofs.TextLaws.{trimmed_complete, trimmed_sound}
use Rattle.text.specs.Parts.{signed}
use Rattle.integer.specs.Spelling.{IntegerSpelling, limit}
use Rattle.integer.specs.Integer.{Held, valued, integer_of}
use Rattle.integer.proofs.IntegerLaws.{integer_of_complete, integer_of_blank, integer_of_value, integer_of_blanks}
use Rattle.integer.specs.declared.IntegerFault.TheVariants.{Blank, Malformed, OutOfRange}
use Rattle.real.specs.Real.{real_of}
use Rattle.real.proofs.RealLaws.{real_of_complete, real_of_sound}
use Rattle.real.specs.EndLaws.{signed_size}
use Rattle.real.specs.Real.{Real}
use Rattle.real.specs.declared.RealFault.TheVariants as R
use Rattle.codes.specs.Rule.{Rule, keeps}
use Rattle.codes.specs.Form.{Form, Optional, skip, identification, real, integer, never, within}
use Rattle.field.specs.Item.{Item}
use Rattle.field.specs.Field.{blank_in, may_blank, integer_number, real_number, field_number, integer_item, real_item, with_item}
use Rattle.record.specs.Check.{first_non_blank, stray_in}
use Rattle.record.specs.Written.{Stands, a_text, a_identification, an_integer, a_blank, a_real}

-- Skipped columns.

-- in blanks no other byte is found
pub first_byte_complete : (k : ℕ) {cols : List ℕ} → Blanks cols → first_non_blank k cols ≡ 0
unfolding first_non_blank
first_byte_complete k none = refl
first_byte_complete k (one b) = first_byte_complete (k + 1) b

-- columns in which none is found are blanks; a column found is counted from 1, so 0 says none
pub first_byte_sound : (k : ℕ) (cols : List ℕ) → 0 < k → first_non_blank k cols ≡ 0 → Blanks cols
unfolding first_non_blank
first_byte_sound k [] p h = none
first_byte_sound k (b ∷ cols) p h = first (eqb b 32) refl h (first_byte_sound (k + 1) cols (omega arith))
  where
    first : (t : Bool) → eqb b 32 ≡ t → pick t (first_non_blank (k + 1) cols) k ≡ 0 → (first_non_blank (k + 1) cols ≡ 0 → Blanks cols) → Blanks (b ∷ cols)
    first true e z rest = rw (eqb-true b 32 e) (one (rest z))
    first false e z rest = absurd (omega arith)

-- Titles.

text_blanks : {cols : List ℕ} → TextIn [] cols → Blanks cols
text_blanks (text_in_lem bl u b) = b

-- columns in which a text that is not empty stands are not all blank
title_complete : (may : Bool) {t cols : List ℕ} → TextIn t cols → (t ≡ [] → ⊥) → field_number identification may cols ≡ 0
unfolding field_number
title_complete may {t} {cols} s n = by (all_blank cols) refl
  where
    by : (a : Bool) → all_blank cols ≡ a → field_number identification may cols ≡ 0
    by true e = absurd (n (sym (trimmed_complete s) ∙ trimmed_complete (text_in_lem cols empty (all_blank_sound cols e))))
    by false e = rw e refl

-- Integers.

-- a spelling in range is read as its value
integer_of_within : {n : Bool} {v : ℕ} {cols : List ℕ} → IntegerSpelling n v cols → v ≤ limit n → integer_of cols ≡ valued n v
integer_of_within {n} {v} s h = rw (le-leb v (limit n) h) at (integer_of_complete s)

-- What is read in the columns of a field that passes stands there.

pub identification_sound : (may : Bool) (cols : List ℕ) → field_number identification may cols ≡ 0 → Stands identification (Item.text (trimmed cols)) cols
unfolding field_number
identification_sound may cols h = a_identification (trimmed_sound cols) some
  where
    some : trimmed cols ≡ [] → ⊥
    some e =
        let z : ◌≡◌ {A = ℕ} 9 0 = rw (all_blank_complete (text_blanks (rw e at (trimmed_sound cols)))) at h in
        omega arith

pub real_sound : (may : Bool) (cols : List ℕ) → field_number real may cols ≡ 0 → Stands real (real_item (real_of cols)) cols
unfolding field_number
real_sound may cols h = of (real_of cols) refl h
  where
    of : (i : Real) → real_of cols ≡ i → real_number i ≡ 0 → Stands real (real_item i) cols
    of (Err R.Blank) e n = absurd (omega arith)
    of (Err R.Malformed) e n = absurd (omega arith)
    of (Ok v) e n = a_real (real_of_sound cols v e).0

module _ (line : List ℕ) where
  -- a field's columns pass, none of their bytes is stray, and they put the field's item, if it has one, before the others
  pub record Reads (f : Form) (cols : List ℕ) (is js : List Item) : Type 0 where
    pub number : field_number f (may_blank f line) cols ≡ 0
    pub clear : (k : ℕ) → stray_in f k cols ≡ 0
    pub items : with_item f cols is ≡ js

  -- skipped columns that are blank give no item
  pub skip_complete : {cols : List ℕ} (is : List Item) → Blanks cols → Reads skip cols is is
  unfolding field_number
  skip_complete is b = record { number = refl; clear = λ k. first_byte_complete k b; items = refl }

  -- an item that stands in a field's columns is the one of these columns
  pub items_stand : {f : Form} {i : Item} {cols : List ℕ} (is : List Item) → Stands f i cols → with_item f cols is ≡ i ∷ is
  items_stand is (a_text s) = rw (trimmed_complete s) refl
  items_stand is (a_identification s n) = rw (trimmed_complete s) refl
  items_stand is (an_integer s h e) = rw (integer_of_within s h) refl
  items_stand is (a_blank b) = rw (integer_of_blank b) refl
  items_stand is (a_real {s = s} r) = rw (real_of_complete r, signed_size s) refl

  -- an item that stands in a field's columns is read there, a blank one where it may be left blank on this line
  stands_number : {f : Form} {i : Item} {cols : List ℕ} → Stands f i cols → (i ≡ Item.blank → may_blank f line ≡ true) → field_number f (may_blank f line) cols ≡ 0
  unfolding field_number may_blank
  stands_number (a_text s) m = refl
  stands_number (a_identification s n) m = title_complete false s n
  stands_number (an_integer s h e) m = rw (integer_of_within s h, e) refl
  stands_number (a_blank b) m = rw (integer_of_blank b, m refl) refl
  stands_number (a_real r) m = rw (real_of_complete r) refl

  stands_clear : {f : Form} {i : Item} {cols : List ℕ} (k : ℕ) → Stands f i cols → stray_in f k cols ≡ 0
  stands_clear k (a_text s) = refl
  stands_clear k (a_identification s n) = refl
  stands_clear k (an_integer s h e) = refl
  stands_clear k (a_blank b) = refl
  stands_clear k (a_real r) = refl

  pub stands_complete : {f : Form} {i : Item} {cols : List ℕ} (is : List Item) → Stands f i cols → (i ≡ Item.blank → may_blank f line ≡ true)
      → Reads f cols is (i ∷ is)
  stands_complete is s m = record { number = stands_number s m; clear = λ k. stands_clear k s; items = items_stand is s }

  -- an integer that is read in the columns of a field that passes stands there
  pub integer_sound : (r : Rule) (o : Optional) (cols : List ℕ) → field_number (integer r o) (may_blank (integer r o) line) cols ≡ 0
      → Stands (integer r o) (integer_item (integer_of cols)) cols
  unfolding field_number may_blank
  integer_sound r o cols h = of o (integer_of cols) refl h
    where
      of : (o : Optional) (i : Held) → integer_of cols ≡ i → integer_number r (blank_in o line) i ≡ 0 → Stands (integer r o) (integer_item i) cols
      of never (Err Blank) e n = absurd (omega arith)
      of (within a b) (Err Blank) e n = a_blank (integer_of_blanks cols e)
      of o (Err Malformed) e n = absurd (omega arith)
      of o (Err OutOfRange) e n = absurd (omega arith)
      of o (Ok i) e p =
          let s : IntegerSpelling i.minus i.size cols × (i.size ≤ limit i.minus) = integer_of_value cols i.minus i.size e in
          an_integer s.0 s.1 (pick_passed (keeps r (signed i.minus i.size)) 10 p)
