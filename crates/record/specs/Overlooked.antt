-- A line's check with some numbers overlooked: a field refused by one of these passes.
use Rattle.std.specs.Prelude.{List, [], ◌∷◌, ℕ, ◌+◌, eqb, take, drop}
use Rattle.std.specs.List.{list_any}
use Rattle.laws.specs.Choice.{pick}
use Rattle.line.specs.Line.{passed}
use Rattle.line.specs.declared.Refusal.{Refusal}
use Rattle.field.specs.Field.{may_blank, field_number}
use Rattle.record_table.specs.Row.{Field}
use Rattle.record.specs.Check.{or_else, otherwise, stray_fault, stray}

-- a refusal's number, where it is not overlooked
unfoldable pub number_but : List ℕ → ℕ → ℕ
number_but os n = pick (list_any (λ o. eqb o n) os) 0 n

-- the first refusal of the fields, from the column at (from 0) on
unfoldable pub fault_but : List ℕ → List Field → ℕ → List ℕ → Refusal
fault_but os [] at line = passed
fault_but os (f ∷ fs) at line =
    or_else (number_but os (field_number f.form (may_blank f.form line) (take f.width (drop at line)))) (at + 1) (fault_but os fs (at + f.width) line)

-- the first refusal of a line by its fields: their own, then 13
unfoldable pub refusal_but : List ℕ → List Field → List ℕ → Refusal
refusal_but os fs line = otherwise (fault_but os fs 0 line) (stray_fault (stray fs 0 line))
