-- What C-15 says of reading by a printed FORMAT: "For every record of document 01 and every line, reading by the printed FORMAT gives the same fields or
-- the same refusal as the built-in reader, before 9, 11 and 14 are looked at".
use Rattle.std.specs.Prelude.{◌≡◌, Bool, true, false, ◌||◌, List, [], ◌∷◌, map, ℕ, suc, ◌+◌}
use Rattle.text.specs.Text.{TextIn}
use Rattle.text.specs.Parts.{signed}
use Rattle.integer.specs.Spelling.{IntegerSpelling}
use Rattle.real.specs.Spelling.{RealSpelling}
use Rattle.format.specs.Format as Format
use Rattle.format.specs.Reading.{fields, reading_of}
use Rattle.line.specs.Line.{columns, filled}
use Rattle.delimiter.specs.Kind.{Delimiter}
use Rattle.codes.specs.Form.{skip}
use Rattle.field.specs.Item.{Item}
use Rattle.field.specs.Field.{columns_of, may_blank}
use Rattle.record_table.specs.Row.{Field}
use Rattle.record.specs.Check.{taken}
use Rattle.walk.specs.Due.{may_continue, row_due}
use Rattle.walk.specs.declared.Due.{Due}
use Rattle.walk.specs.declared.Place.TheVariants.{Typed}
use Rattle.walk.specs.declared.State.{State}
use Rattle.reader.specs.Reader.{Said, said, shown}
use Rattle.format_reader.specs.Question.{Seen, kind_of, row_field}
use Rattle.format_reader.specs.Question as Question

-- a row's field as a FORMAT has it: its kind and its width
abbrev pub format_field : Field → Format.Field
format_field f = record { kind = kind_of f.form; width = f.width }

-- a row's fields as the question has them by a FORMAT of them
abbrev pub as_format : List Field → List Field
as_format fs = map row_field (map format_field fs)

-- the text reads as these fields of a row
abbrev pub ReadsAs : List ℕ → List Field → Type 0
ReadsAs text fs = reading_of text ≡ fields (map format_field fs)

-- "lines of 151 and 164 with a number field that may be blank left blank": whether a line is one, which is left out
unfoldable pub left_blank : List Field → List ℕ → Bool
left_blank [] line = false
left_blank (f ∷ fs) line = may_blank f.form line || left_blank fs line

-- field k, from 0, of these fields, of which the first begins at the column `at`: it is this one, and begins at `first`. X columns "have no number"
pub data InField : List Field → (at k : ℕ) → Field → (first : ℕ) → Type 0 where
  here : {f : Field} {fs : List Field} {at : ℕ} → (f.form ≡ skip → ⊥) → InField (f ∷ fs) at 0 f at
  later : {f g : Field} {fs : List Field} {at k a : ℕ} → (f.form ≡ skip → ⊥) → InField fs (at + f.width) k g a → InField (f ∷ fs) at (suc k) g a
  skipped : {f g : Field} {fs : List Field} {at k a : ℕ} → f.form ≡ skip → InField fs (at + f.width) k g a → InField (f ∷ fs) at k g a

-- the item in the columns from a to before e of a line's 80, as it is shown: "a text or integer being shown as the first and past byte of its columns, a
-- real as the reader shows it"
pub data Shows (line : List ℕ) (a e : ℕ) : Item → Said Seen → Type 0 where
  a_text : {t : List ℕ} → TextIn t (columns_of a e line) → Shows line a e (Item.text t) (said 0 1 (Question.columns a e ∷ []))
  an_integer : {n : Bool} {v : ℕ} → IntegerSpelling n v (columns_of a e line) → Shows line a e (Item.integer (signed n v)) (said 0 2 (Question.columns a e ∷ []))
  a_real : (n : Bool) (c : ℕ) (below : Bool) (size : ℕ) → RealSpelling n c (signed below size) (columns_of a e line)
      → Shows line a e (Item.real n c (signed below size)) (said 0 3 (Question.number (shown a e n c below size) ∷ []))

-- field k shows an item in its own columns
pub record FieldShows (fs : List Field) (at k : ℕ) (line : List ℕ) (i : Item) (s : Said Seen) : Type 0 where
  pub field : Field
  pub first : ℕ
  pub own : InField fs at k field first
  pub shows : Shows line first (first + field.width) i s

-- a line of a file, by the bytes before its LF, where a row is due in a typed set, and a text that reads as the fields of this row that are taken: the
-- row's own ("a last line of numbers is read by the FORMAT of what it holds"), of a 58 those of the full line where the remainder is not blank. No
-- delimiter, and no line with a field left blank
pub record Asked (s : State) (l text : List ℕ) : Type 0 where
  pub due : Due
  pub place : s.place ≡ Typed due
  pub more : may_continue due ≡ true
  pub inside : Delimiter (filled (columns true l)) → ⊥
  pub reads : ReadsAs text (taken (row_due due) (filled (columns true l))).fields
  pub present : left_blank (taken (row_due due) (filled (columns true l))).fields (filled (columns true l)) ≡ false
