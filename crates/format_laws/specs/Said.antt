-- What the question can answer (01, "What comes back"; 02, C-15: "Refusals: 26, text malformed or too long; then 27, deeper than three or over 80 columns; then
-- the line's own; then 18").
use Rattle.std.specs.Prelude.{Bool, List, [], ◌∷◌, map, ℕ, ◌+◌, ◌≤◌}
use Rattle.text.specs.Parts.{signed}
use Rattle.real.specs.Spelling.{RealSpelling}
use Rattle.format.specs.Format.{Format, Text}
use Rattle.format.specs.Format as Format
use Rattle.format.specs.ReadingLaws.{ReadAs, TooLarge}
use Rattle.line.specs.Line.{filled}
use Rattle.line.specs.declared.Refusal.{Refusal}
use Rattle.codes.specs.Rule.{Rule}
use Rattle.codes.specs.Form.{Form, Optional, text, integer, real}
use Rattle.field.specs.Field.{columns_of}
use Rattle.record_table.specs.Row.{Field}
use Rattle.judge.specs.Judge.{at_line}
use Rattle.reader.specs.Reader.{Said, said, refused_by, refused}
use Rattle.reader.specs.Reader as Reader
use Rattle.format_reader.specs.Question.{Seen, counts, row_field}
use Rattle.format_reader.specs.Question as Question
use Rattle.format_laws.specs.Asked.{InField}
use Rattle.format_laws.specs.Fault.{LentFault}

-- the line's own refusals: never 4, 9, 11 or 14
pub data QuestionNumber : ℕ → Type 0 where
  byte : QuestionNumber 2
  long : QuestionNumber 3
  integer_malformed : QuestionNumber 10
  real_malformed : QuestionNumber 12
  stray : QuestionNumber 13
  integer_blank : QuestionNumber 24
  real_blank : QuestionNumber 25

-- the bytes are no FORMAT text
abbrev pub NoFormat : List ℕ → Type 0
NoFormat bytes = (t : Format) → Text t bytes → ⊥

-- the bytes are a FORMAT that fits, and this is wrong with the line by its fields
pub record LineRefused (bytes line : List ℕ) (f : Refusal) : Type 0 where
  pub fields : List Format.Field
  pub read : ReadAs fields bytes
  pub wrong : LentFault (map row_field fields) line f

-- how many fields these are: X columns are none
unfoldable pub field_count : List Format.Field → ℕ
field_count [] = 0
field_count (f ∷ fs) = counts f.kind + field_count fs

-- the bytes are a FORMAT that fits, nothing is wrong with the line by its fields, and these are no more than k
pub record NoField (bytes : List ℕ) (k : ℕ) (line : List ℕ) : Type 0 where
  pub fields : List Format.Field
  pub read : ReadAs fields bytes
  pub clear : (f : Refusal) → LentFault (map row_field fields) line f → ⊥
  pub few : field_count fields ≤ k

-- what stands in the columns from a to before e of a line's 80, by its form
pub data SeenAs (line : List ℕ) (a e : ℕ) : Form → Said Seen → Type 0 where
  a_text : SeenAs line a e text (said 0 1 (Question.columns a e ∷ []))
  an_integer : {r : Rule} {o : Optional} → SeenAs line a e (integer r o) (said 0 2 (Question.columns a e ∷ []))
  a_real : (n : Bool) (c : ℕ) (below : Bool) (size : ℕ) → RealSpelling n c (signed below size) (columns_of a e line)
      → SeenAs line a e real (said 0 3 (Question.number (Reader.shown a e n c below size) ∷ []))

-- the bytes are a FORMAT that fits, nothing is wrong with the line by its fields, and this is field k in its own columns
pub record FieldSeen (bytes : List ℕ) (k : ℕ) (line : List ℕ) (s : Said Seen) : Type 0 where
  pub fields : List Format.Field
  pub read : ReadAs fields bytes
  pub clear : (f : Refusal) → LentFault (map row_field fields) line f → ⊥
  pub field : Field
  pub first : ℕ
  pub own : InField (map row_field fields) 0 k field first
  pub seen : SeenAs (filled line) first (first + field.width) field.form s

-- a field with its kind as place, or a refusal that shows nothing, each with its reason: 26, 27 and 18 with place and column 0, and the line's own at line 1
pub data FieldSaid (format : List ℕ) (k : ℕ) (lent : List ℕ) : Said Seen → Type 0 where
  shown : {s : Said Seen} → FieldSeen format k lent s → FieldSaid format k lent s
  malformed : NoFormat format → FieldSaid format k lent (refused 26 0)
  too_large_lem : TooLarge format → FieldSaid format k lent (refused 27 0)
  line : (f : Refusal) → QuestionNumber f.number → 1 ≤ f.column → LineRefused format lent f → FieldSaid format k lent (refused_by (at_line 0 f))
  no_field : NoField format k lent → FieldSaid format k lent (refused 18 0)
