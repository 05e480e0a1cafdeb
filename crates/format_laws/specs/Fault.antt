-- Why the question refuses a line, and where (02, C-15: "then the line's own", "before 9, 11 and 14 are looked at"). Said from the fields and the line, by what
-- `line_laws` Fault and `record_laws` Fault call wrong with them: nothing here runs the check. Fields are counted from 0, columns from 1.
use Rattle.std.specs.Prelude.{true, List, ℕ, ◌+◌, ◌≤◌, ◌<◌, length}
use Rattle.line.specs.Line.{refusal, Allowed, filled}
use Rattle.line.specs.declared.Refusal.{Refusal}
use Rattle.codes.specs.Form.{Form}
use Rattle.record_table.specs.Row.{Field}
use Rattle.line_laws.specs.Fault.{LineFault}
use Rattle.record_laws.specs.Fault.{field_at, left_of, own_columns, First, FieldFault, Stray}

-- 9, 11 and 14
pub data Ruled : ℕ → Type 0 where
  nine : Ruled 9
  eleven : Ruled 11
  fourteen : Ruled 14

module _ (line : List ℕ) where
  -- what is wrong with the columns of a field: blank or malformed, 10, 12, 24 or 25
  pub record Misspelled (n : ℕ) (f : Form) (cols : List ℕ) : Type 0 where
    pub fault : FieldFault line n f cols
    pub looked_at_lem : Ruled n → ⊥

  -- nothing is, but what is not looked at: an integer of any size passes, and a blank text
  abbrev pub WellSpelled : Form → List ℕ → Type 0
  WellSpelled f cols = (n : ℕ) → FieldFault line n f cols → Ruled n

  abbrev pub WellSpelledBefore : List Field → ℕ → Type 0
  WellSpelledBefore fs k = (j : ℕ) → j < k → WellSpelled (field_at fs j).form (own_columns line fs j)

-- the refusal of a line's 80 columns by its fields: the first one from the left that is misspelled, else 13 at the first byte outside the fields
pub data SpellingFault (fs : List Field) (line : List ℕ) : Refusal → Type 0 where
  field : (n k : ℕ) → k < length fs → WellSpelledBefore line fs k → Misspelled line n (field_at fs k).form (own_columns line fs k)
      → SpellingFault fs line (refusal n (left_of fs k + 1))
  stray : (c : ℕ) → WellSpelledBefore line fs (length fs) → First (Stray line fs) c → SpellingFault fs line (refusal 13 c)

-- the refusal of a line lent alone: 2 or 3, else by its fields
pub data LentFault (fs : List Field) (lent : List ℕ) (f : Refusal) : Type 0 where
  own : LineFault true lent f → LentFault fs lent f
  fields : Allowed lent → length lent ≤ 80 → SpellingFault fs (filled lent) f → LentFault fs lent f
