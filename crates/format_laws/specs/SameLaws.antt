-- Reading by a FORMAT that reads as a row's fields is reading by the row's fields, before 9, 11 and 14 are looked at.
use Rattle.std.specs.Prelude.{◌≡◌, Bool, true, false, ◌||◌, ℕ, ◌+◌, take, drop, Ok, Err}
use Rattle.std.proofs.Math.Path.{refl}
use Rattle.std.proofs.Common.{sym, ◌∙◌}
use mathlib.Core.List.{List, [], ◌∷◌}
use Rattle.laws.specs.Choice.{pick}
use Rattle.laws.specs.ChoiceLaws.{false_not_true}
use Rattle.text.specs.Blank.{all_blank}
use Rattle.text.specs.Parts.{signed}
use Rattle.integer.specs.Integer.{Held, integer_of}
use Rattle.line.specs.Line.{filled}
use Rattle.codes.specs.Rule.{Rule, any, keeps}
use Rattle.codes.specs.Form.{Form, skip, text, identification, real, integer}
use Rattle.field.specs.Field.{may_blank, integer_number, field_number}
use Rattle.record_table.specs.Row.{Field}
use Rattle.record.specs.Check.{stray_in, stray}
use Rattle.format_reader.specs.Unruled.{looked_at, unruled_number, unruled_fault, unruled_refusal}
use Rattle.format_reader.specs.Question.{kind_of, shown_from, field_in, field_of, form_for, answer_of}
use Rattle.format_laws.specs.Asked.{as_format, ReadsAs, left_blank}

pub or_left : (a b : Bool) → a || b ≡ false → a ≡ false
or_left true b h = h
or_left false b h = refl

pub or_right : (a b : Bool) → a || b ≡ false → b ≡ false
or_right true b h = false_not_true (sym h)
or_right false b h = h

-- One field: by its kind alone it is refused as by its form, where it may not be left blank.

ruled_pick : (a b : Bool) → looked_at (pick a 0 11) ≡ looked_at (pick b 0 11)
unfolding looked_at
ruled_pick true true = refl
ruled_pick true false = refl
ruled_pick false true = refl
ruled_pick false false = refl

text_pick : (a : Bool) → 0 ≡ looked_at (pick a 9 0)
unfolding looked_at
text_pick true = refl
text_pick false = refl

same_integer : (r q : Rule) (i : Held) → looked_at (integer_number r false i) ≡ looked_at (integer_number q false i)
same_integer r q (Err f) = refl
same_integer r q (Ok i) = ruled_pick (keeps r (signed i.minus i.size)) (keeps q (signed i.minus i.size))

same_number : (f : Form) (line cols : List ℕ) → may_blank f line ≡ false → unruled_number (form_for (kind_of f)) line cols ≡ unruled_number f line cols
unfolding unruled_number field_number form_for kind_of may_blank looked_at
same_number skip line cols m = refl
same_number text line cols m = refl
same_number identification line cols m = text_pick (all_blank cols)
same_number real line cols m = refl
same_number (integer r o) line cols m = same_integer any r (integer_of cols) ∙ rw m refl

same_stray : (f : Form) (k : ℕ) (cols : List ℕ) → stray_in (form_for (kind_of f)) k cols ≡ stray_in f k cols
unfolding form_for kind_of
same_stray skip k cols = refl
same_stray text k cols = refl
same_stray identification k cols = refl
same_stray real k cols = refl
same_stray (integer r o) k cols = refl

same_kind : (f : Form) → kind_of (form_for (kind_of f)) ≡ kind_of f
unfolding form_for kind_of
same_kind skip = refl
same_kind text = refl
same_kind identification = refl
same_kind real = refl
same_kind (integer r o) = refl

-- All fields.

module _ (line : List ℕ) where
  same_fault : (fs : List Field) (at : ℕ) → left_blank fs line ≡ false → unruled_fault (as_format fs) at line ≡ unruled_fault fs at line
  unfolding unruled_fault left_blank
  same_fault [] at b = refl
  same_fault (f ∷ fs) at b =
      let m = or_left (may_blank f.form line) _ b in
      rw (same_number f.form line (take f.width (drop at line)) m, same_fault fs (at + f.width) (or_right (may_blank f.form line) _ b)) refl

  same_strays : (fs : List Field) (at : ℕ) → stray (as_format fs) at line ≡ stray fs at line
  unfolding stray
  same_strays [] at = refl
  same_strays (f ∷ fs) at = rw (same_stray f.form (at + 1) (take f.width (drop at line)), same_strays fs (at + f.width)) refl

  same_shown : (fs : List Field) (at k : ℕ) → shown_from (as_format fs) at k line ≡ shown_from fs at k line
  unfolding shown_from
  same_shown [] at k = refl
  same_shown (f ∷ fs) at k = rw (same_kind f.form, same_shown fs (at + f.width)) refl

  pub same_refusal : (fs : List Field) → left_blank fs line ≡ false → unruled_refusal (as_format fs) line ≡ unruled_refusal fs line
  unfolding unruled_refusal
  same_refusal fs b = rw (same_fault fs 0 b, same_strays fs 0) refl

-- "the same fields or the same refusal", by any text that reads as these fields, of every line
pub by_format : (text : List ℕ) (fs : List Field) → ReadsAs text fs → (k : ℕ) (line : List ℕ) → left_blank fs (filled line) ≡ false
    → answer_of text k line ≡ field_of fs k line
unfolding answer_of field_of field_in
by_format format fs e k line b = rw (e, same_refusal (filled line) fs b, same_shown (filled line) fs 0 k) refl
