-- Why a line is refused by its row, and where (01, "What comes back": 9 to 14, "Fields are taken left to right; .. then 13, then 14"; 02,
-- C-14: the column "of the first such byte for .. 13, the field's first column for 10, 11, 12, 14, 24 and 25 ... For 14 it is the
-- earliest offending field"). Said from the row's fields and the line's 80 columns: nothing here runs the check. Fields are counted from
-- 0, columns from 1.
use Rattle.std.specs.Prelude.{◌≡◌, Bool, true, false, ◌⊎◌, List, map, ℕ, ◌+◌, ◌-◌, ◌≤◌, ◌<◌, ℤ, length, get_or, take, drop}
use Rattle.text.specs.Blank.{Blanks}
use Rattle.text.specs.Parts.{signed}
use Rattle.integer.specs.Spelling.{IntegerSpelling, limit}
use Rattle.real.specs.Spelling.{RealSpelling}
use Rattle.line.specs.Line.{refusal}
use Rattle.line.specs.declared.Refusal.{Refusal}
use Rattle.codes.specs.Rule.{Rule, keeps}
use Rattle.codes.specs.Form.{Form, Optional, skip, text, identification, real, integer, never, within}
use Rattle.layout.specs.Columns.{field_start}
use Rattle.field.specs.Field.{columns_of}
use Rattle.record_table.specs.Row.{Field, Row, with_padding, Condition, zero_if_uneven, above_zero}
use Rattle.record_table.specs.Records.{X}
use Rattle.record.specs.Check.{remainder_in}

-- field k of a row, no columns past the last; the columns left of it; its own
abbrev pub field_at : List Field → ℕ → Field
field_at fs k = get_or fs k (X 0)

abbrev pub left_of : List Field → ℕ → ℕ
left_of fs k = field_start (map (λ (f : Field). f.width) fs) k

abbrev pub own_columns : List ℕ → List Field → ℕ → List ℕ
own_columns line fs k = take (field_at fs k).width (drop (left_of fs k) line)

-- what holds of this number and of none below it
pub record First (P : ℕ → Type 0) (k : ℕ) : Type 0 where
  pub here : P k
  pub before : (j : ℕ) → j < k → P j → ⊥

module _ (line : List ℕ) where
  -- an integer may not be left blank: nowhere, or not on this line, as the columns named are not all blank
  pub data Required : Optional → Type 0 where
    always : Required never
    mixed : {a e : ℕ} → (Blanks (columns_of a e line) → ⊥) → Required (within a e)

  -- what is wrong with the columns of a field, by the refusal's number
  pub data FieldFault : ℕ → Form → List ℕ → Type 0 where
    -- "blank text where text must stand"
    text_blank : {cols : List ℕ} → Blanks cols → FieldFault 9 identification cols
    -- 02, C-14: "integer field blank"; "malformed": neither blank nor an integer's spelling
    integer_blank : {r : Rule} {o : Optional} {cols : List ℕ} → Blanks cols → Required o → FieldFault 24 (integer r o) cols
    integer_malformed : {r : Rule} {o : Optional} {cols : List ℕ}
        → (Blanks cols → ⊥) → ((n : Bool) (v : ℕ) → IntegerSpelling n v cols → ⊥) → FieldFault 10 (integer r o) cols
    -- "integer out of range or code not listed"
    out_of_range : {r : Rule} {o : Optional} {n : Bool} {v : ℕ} {cols : List ℕ} → IntegerSpelling n v cols → limit n < v → FieldFault 11 (integer r o) cols
    against_rule : {r : Rule} {o : Optional} {n : Bool} {v : ℕ} {cols : List ℕ}
        → IntegerSpelling n v cols → v ≤ limit n → keeps r (signed n v) ≡ false → FieldFault 11 (integer r o) cols
    -- 02, C-14: "real field blank"; "malformed"
    real_blank : {cols : List ℕ} → Blanks cols → FieldFault 25 real cols
    real_malformed : {cols : List ℕ} → (Blanks cols → ⊥) → ((n : Bool) (c : ℕ) (s : ℤ) → RealSpelling n c s cols → ⊥) → FieldFault 12 real cols

  -- the columns of a field with which nothing is wrong
  pub data Passes : Form → List ℕ → Type 0 where
    skipped : {cols : List ℕ} → Passes skip cols
    a_text : {cols : List ℕ} → Passes text cols
    an_identification : {cols : List ℕ} → (Blanks cols → ⊥) → Passes identification cols
    an_integer : {r : Rule} {o : Optional} {n : Bool} {v : ℕ} {cols : List ℕ}
        → IntegerSpelling n v cols → v ≤ limit n → keeps r (signed n v) ≡ true → Passes (integer r o) cols
    left_blank_lem : {r : Rule} {a e : ℕ} {cols : List ℕ} → Blanks cols → Blanks (columns_of a e line) → Passes (integer r (within a e)) cols
    a_real : {n : Bool} {c : ℕ} {s : ℤ} {cols : List ℕ} → RealSpelling n c s cols → Passes real cols

  module _ (fs : List Field) where
    -- the fields left of field k pass
    abbrev pub PassBefore : ℕ → Type 0
    PassBefore k = (j : ℕ) → j < k → Passes (field_at fs j).form (own_columns line fs j)

    -- all fields pass
    abbrev pub AllPass : Type 0
    AllPass = PassBefore (length fs)

    -- column c lies in field k, which is none of skipped columns
    pub record Inside (c k : ℕ) : Type 0 where
      pub form : (field_at fs k).form ≡ skip → ⊥
      pub from : left_of fs k < c
      pub past : c ≤ left_of fs k + (field_at fs k).width

    -- "non-blank byte outside the fields due on this line", in column c
    pub record Stray (c : ℕ) : Type 0 where
      pub some : 1 ≤ c
      pub byte : get_or line (c - 1) 32 ≡ 32 → ⊥
      pub outside : (k : ℕ) → Inside c k → ⊥

    -- field k breaks what a row asks of its fields together
    pub data Breaks : Condition → ℕ → Type 0 where
      -- 58, line 7, "uneven with minimum or increment not zero": spacing is field 2, minimum and increment are fields 3 and 4
      uneven : {k c : ℕ} {n m : Bool} {s : ℤ} → IntegerSpelling n 0 (own_columns line fs 2) → 3 ≤ k → k ≤ 4
          → RealSpelling m c s (own_columns line fs k) → (c ≡ 0 → ⊥) → Breaks zero_if_uneven k
      -- 164, "factor not above zero"
      factor : {k c : ℕ} {m : Bool} {s : ℤ} → RealSpelling m c s (own_columns line fs k) → (m ≡ true) ⊎ (c ≡ 0) → Breaks above_zero k

-- the refusal of a line by a row of which all fields are taken
pub data TakenFault (r : Row) (line : List ℕ) : Refusal → Type 0 where
  -- a field is wrong, those left of it pass
  field : (n k : ℕ) → k < length r.fields → PassBefore line r.fields k → FieldFault line n (field_at r.fields k).form (own_columns line r.fields k)
      → TakenFault r line (refusal n (left_of r.fields k + 1))
  -- all fields pass, a byte lies outside them
  stray : (c : ℕ) → AllPass line r.fields → First (Stray line r.fields) c → TakenFault r line (refusal 13 c)
  -- all fields pass, no byte lies outside them, a field breaks the condition
  condition : (k : ℕ) → AllPass line r.fields → ((c : ℕ) → Stray line r.fields c → ⊥)
      → First (Breaks line r.fields r.condition) k → TakenFault r line (refusal 14 (left_of r.fields k + 1))

-- the refusal of a line by a row (02, C-13: "a remainder neither blank nor well-formed is 12 at its first blank or bad field"): its own
-- fields are taken first, then, where the remainder is not blank, those of its padding, and 13 is for a byte past them
pub data RowFault (r : Row) (line : List ℕ) (f : Refusal) : Type 0 where
  alone : Blanks (remainder_in r line) → TakenFault r line f → RowFault r line f
  padded : (Blanks (remainder_in r line) → ⊥) → TakenFault (with_padding r) line f → RowFault r line f
