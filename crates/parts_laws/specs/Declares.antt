-- What a 58 of a list declares in its line 7 (01, "Records").
use Rattle.std.specs.Prelude.{◌≡◌, List, [], ◌∷◌, ℕ, eqb, get_or, drop}
use Rattle.laws.specs.Choice.{pick}
use Rattle.field.specs.Item.{Item}
use Rattle.record_table.specs.TypedSets.{line_seven}
use Rattle.record.specs.Declares.{case_by, count_by}
use Rattle.parts.specs.Parts.{Part}
use Rattle.theory.specs.Sets.{Set}
use Rattle.parts_laws.specs.Holds.{Holds}

-- the items of line 7
abbrev pub seventh_of : Set → List Item
seventh_of s = get_or s.lines line_seven []

-- the declared count; 0 unless it is a 58
unfoldable pub declared : Set → ℕ
declared s = pick (eqb s.number 58) (count_by (seventh_of s)) 0

-- the case, from 0
unfoldable pub set_case : Set → ℕ
set_case s = case_by (seventh_of s)

-- of one set, by its place
pub record Found (ps : List Part) (k : ℕ) (s : Set) : Type 0 where
  pub part : Part
  pub others : List Part
  pub sets : drop k ps ≡ part ∷ others
  pub holds : Holds s part
