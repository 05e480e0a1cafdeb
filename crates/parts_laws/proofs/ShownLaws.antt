-- A stored number of the list is what the bytes of its own columns mean.
use Rattle.std.specs.Prelude.{◌≡◌, List, [], ℕ, ◌+◌, ◌-◌, ◌<◌, get_or, take, drop}
use Rattle.std.proofs.Common.{sym, subst, arith}
use Rattle.real.specs.Real.{number_of}
use Rattle.real.proofs.RealLaws.{real_of_complete}
use Rattle.layout.specs.Columns.{field_start, field_past, line_of, field_of}
use Rattle.layout.specs.Layout.{layout_of, fields_of}
use Rattle.layout.specs.LayoutLaws.{field_inside}
use Rattle.field.specs.Item.{Item}
use Rattle.record_table.specs.TypedSets.{header_lines}
use Rattle.theory.specs.Sets.{Set}
use Rattle.parts.specs.Parts as Parts
use Rattle.parts.specs.Function as Function
use Rattle.parts.specs.Set.{Somewhere}
use Rattle.parts.specs.SetLaws.{line_bytes}
use Rattle.parts_laws.specs.Holds.{Holds}
use Rattle.parts_laws.specs.DeclaresLaws.{case_held}
use Rattle.parts_laws.specs.Stored.{stored_count, stored_item, own_columns}
use Rattle.parts_laws.specs.StoredLaws.{stored_spelled}
use Rattle.parts_laws.specs.Field.{Spelled}
use Rattle.parts_laws.specs.BytesLaws.{field_bytes_lem}

-- the width of a stored number's columns
span : (p : Parts.Part) (j : ℕ) → Function.past_byte p j - Function.first_byte p j ≡ get_or (layout_of (Function.part_case p)).widths (field_of (fields_of (Function.part_case p)) j) 0
unfolding Function.past_byte Function.first_byte field_past
span p j = omega arith

-- the own columns are bytes of the text
module _ (file : List ℕ) (p : Parts.Part) (ps : List Parts.Part) (w : Somewhere file p ps) (j : ℕ) where
  abbrev c : ℕ
  c = Function.part_case p

  abbrev k : ℕ
  k = field_of (fields_of c) j

  abbrev line : ℕ
  line = header_lines + line_of (fields_of c) j

  pub own_bytes_lem : (i : Item) → Spelled i (own_columns c p j) → own_columns c p j ≡ take (Function.past_byte p j - Function.first_byte p j) (drop (Function.first_byte p j) file)
  unfolding own_columns Parts.line_of Function.first_byte Function.past_byte Function.data_line
  own_bytes_lem i s =
      rw (span p j)
      (field_bytes_lem file (get_or p.body line []) (Parts.line_start p line) (field_start (layout_of c).widths k) (get_or (layout_of c).widths k 0) (number_of s.minus s.coefficient s.scale)
      (line_bytes file w.before w.from p ps w.stands line) (field_inside c k) (real_of_complete s.spelling))

-- stored number j of the list is the real that the bytes of its own columns spell
pub stored_shown : {s : Set} {p : Parts.Part} (file : List ℕ) (ps : List Parts.Part) → Somewhere file p ps → Holds s p → s.number ≡ 58 → (j : ℕ) → j < stored_count s
    → Spelled (stored_item s j) (take (Function.past_byte p j - Function.first_byte p j) (drop (Function.first_byte p j) file))
stored_shown {s} {p} file ps w h e j l =
    let x : Spelled (stored_item s j) (own_columns (Function.part_case p) p j) = subst (λ (y : ℕ). Spelled (stored_item s j) (own_columns y p j)) (sym (case_held h e)) (stored_spelled h e j l) in
    subst (Spelled (stored_item s j)) (own_bytes_lem file p ps w j (stored_item s j) x) x
