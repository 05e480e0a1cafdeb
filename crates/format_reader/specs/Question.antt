-- The question of C-15: "to type in a set's printed FORMAT and read a line's fields, by number from 0".
use Rattle.std.specs.Prelude.{true, List, [], ◌∷◌, map, ℕ, ◌+◌, ◌-◌, ltb, take, drop, Ok, Err, Result}
use Rattle.laws.specs.Choice.{pick}
use Rattle.real.specs.Real.{real_of}
use Rattle.real.specs.Real.{Real}
use Rattle.format.specs.Format.{Kind}
use Rattle.format.specs.Format as Format
use Rattle.format.specs.declared.Kind as own
use Rattle.format.specs.declared.Kind.TheVariants as own_kind
use Rattle.format.specs.Reading.{Reading, malformed, too_large, fields, reading_of}
use Rattle.line.specs.Line.{line_fault, filled}
use Rattle.line.specs.declared.Refusal.{Refusal}
use Rattle.codes.specs.Rule.{any}
use Rattle.codes.specs.Form.{Form, skip, text, identification, real, integer, never}
use Rattle.record_table.specs.Row.{Field}
use Rattle.judge.specs.Judge.{at_line}
use Rattle.reader.specs.Reader.{Said, said, refused_by, refused, Shown, shown}
use Rattle.format_reader.specs.Unruled.{unruled_refusal}
use Rattle.judge.specs.declared.Reply.{Reply}
use Rattle.format_reader.specs.declared.Field as answer
use Rattle.format_reader.specs.declared.Field.TheVariants as field

-- "a text or integer being shown as the first and past byte of its columns, a real as the reader shows it, bytes from 0 in the line filled
-- with blanks"
pub data Seen : Type 0 where
  columns : (first past : ℕ) → Seen
  number : Shown → Seen

-- what each case of the answer says; the place is the kind: 1 a text, 2 an integer, 3 a real
abbrev pub paper_field : Result answer.Field Reply → Said Seen
paper_field (Ok (field.Text a e)) = said 0 1 (columns a e ∷ [])
paper_field (Ok (field.Integer a e)) = said 0 2 (columns a e ∷ [])
paper_field (Ok (field.Real s)) = said 0 3 (number (shown s.first s.past s.minus s.coefficient s.below s.scale) ∷ [])
paper_field (Err r) = refused_by r

-- a real, by its columns and what they mean; 18 where they hold none, which no line has whose fields pass
abbrev pub real_shown : ℕ → ℕ → Real → Said Seen
real_shown a e (Ok n) = said 0 3 (number (shown a e n.minus n.coefficient n.below n.scale) ∷ [])
real_shown a e (Err _) = refused 18 0

-- the kind of a field in a FORMAT, by its form
unfoldable pub kind_of : Form → Kind
kind_of skip = Kind.skip
kind_of text = Kind.text
kind_of identification = Kind.text
kind_of real = Kind.real
kind_of (integer r o) = Kind.integer

-- the field of this kind in the columns from a to before e; X columns are none
unfoldable pub field_shown : Kind → ℕ → ℕ → List ℕ → Said Seen
field_shown Kind.skip a e line = refused 18 0
field_shown Kind.text a e line = said 0 1 (columns a e ∷ [])
field_shown Kind.integer a e line = said 0 2 (columns a e ∷ [])
field_shown Kind.real a e line = real_shown a e (real_of (take (e - a) (drop a line)))

-- how many fields columns of this kind are: X columns "have no number"
unfoldable pub counts : Kind → ℕ
counts Kind.skip = 0
counts Kind.text = 1
counts Kind.integer = 1
counts Kind.real = 1

-- field k, from 0, of those from the column at on; 18 "no such .. field"
unfoldable pub shown_from : List Field → ℕ → ℕ → List ℕ → Said Seen
shown_from [] at k line = refused 18 0
shown_from (f ∷ fs) at k line =
    pick (ltb k (counts (kind_of f.form)))
    (field_shown (kind_of f.form) at (at + f.width) line)
    (shown_from fs (at + f.width) (k - counts (kind_of f.form)) line)

-- a refusal of the line, which is line 1, or what follows where there is none
abbrev pub line_first : Refusal → Said Seen → Said Seen
line_first f s = pick (ltb 0 f.number) (refused_by (at_line 0 f)) s

-- field k of a line's 80 columns: the line's refusals by its fields come before
unfoldable pub field_in : List Field → ℕ → List ℕ → Said Seen
field_in fs k line = line_first (unruled_refusal fs line) (shown_from fs 0 k line)

-- field k of a line lent alone: "A line lent alone has no end (LF or CR in it is 2)", and is never 4
unfoldable pub field_of : List Field → ℕ → List ℕ → Said Seen
field_of fs k line = line_first (line_fault true line) (field_in fs k (filled line))

-- a FORMAT's field as a row has it: any integer, and none that may be left blank
unfoldable pub form_for : Kind → Form
form_for Kind.skip = skip
form_for Kind.text = text
form_for Kind.integer = integer any never
form_for Kind.real = real

abbrev pub row_field : Format.Field → Field
row_field f = record { form = form_for f.kind; width = f.width }

-- "Refusals: 26, text malformed or too long; then 27, deeper than three or over 80 columns; then the line's own; then 18"
abbrev pub answer_by : Reading → ℕ → List ℕ → Said Seen
answer_by malformed k line = refused 26 0
answer_by too_large k line = refused 27 0
answer_by (fields fs) k line = field_of (map row_field fs) k line

unfoldable pub answer_of : List ℕ → ℕ → List ℕ → Said Seen
answer_of format k line = answer_by (reading_of format) k line

-- the code's number of a form, by its kind
abbrev pub form_number : own.Kind → ℕ
form_number own_kind.Skip = 0
form_number own_kind.Text = 1
form_number own_kind.Integer = 4
form_number own_kind.Real = 3
