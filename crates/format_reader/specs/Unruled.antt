-- A line's check "before 9, 11 and 14 are looked at" (02, C-15): a record's own, `record` Check, with these three left out. What is left asks
-- only how fields are spelled. `format_laws` ties it to the judge's.
use Rattle.std.specs.Prelude.{◌||◌, List, [], ◌∷◌, ℕ, ◌+◌, eqb, take, drop}
use Rattle.laws.specs.Choice.{pick}
use Rattle.line.specs.Line.{passed}
use Rattle.line.specs.declared.Refusal.{Refusal}
use Rattle.codes.specs.Form.{Form}
use Rattle.field.specs.Field.{may_blank, field_number}
use Rattle.record_table.specs.Row.{Field}
use Rattle.record.specs.Check.{or_else, otherwise, stray_fault, stray}

-- a refusal's number, where it is looked at
unfoldable pub looked_at : ℕ → ℕ
looked_at n = pick (eqb n 9 || eqb n 11) 0 n

-- the number of the refusal of a field's columns on this line, 0 where they pass: "integers of any length pass"
unfoldable pub unruled_number : Form → List ℕ → List ℕ → ℕ
unruled_number f line cols = looked_at (field_number f (may_blank f line) cols)

-- the first refusal of the fields, from the column at (from 0) on
unfoldable pub unruled_fault : List Field → ℕ → List ℕ → Refusal
unruled_fault [] at line = passed
unruled_fault (f ∷ fs) at line = or_else (unruled_number f.form line (take f.width (drop at line))) (at + 1) (unruled_fault fs (at + f.width) line)

-- the first refusal of a line by its fields: their own, then 13
unfoldable pub unruled_refusal : List Field → List ℕ → Refusal
unruled_refusal fs line = otherwise (unruled_fault fs 0 line) (stray_fault (stray fs 0 line))
