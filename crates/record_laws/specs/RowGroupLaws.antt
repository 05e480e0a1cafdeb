-- In every row of the table, and in the first fields of one, the fields that may be left blank lie side by side.
use Rattle.std.specs.Prelude.{◌≡◌, refl, Bool, true, List, [], ◌∷◌, map, ℕ, zero, suc, ◌+◌, take, drop}
use Rattle.std.proofs.Common.{inl, inr, ⊎_elim, arith, le-leb}
use Rattle.laws.specs.ChoiceLaws.{and_left, and_right, and_both, below_or_not}
use Rattle.laws.specs.RangesLaws.{in_range}
use Rattle.codes.specs.Form.{Optional, never, within, optional_of, blank_from, blank_past}
use Rattle.layout.specs.Layout.{layout_of}
use Rattle.field.specs.Item.{Item}
use Rattle.record_table.specs.Row.{Field, Row, blanks, first_fields}
use Rattle.record_table.specs.Records.{E, records, record_of, data_row, no_record}
use Rattle.record_table.specs.TabledLaws.{record_of_past}
use Rattle.record_table.specs.PaddingLaws.{record_of_unpadded, whole_fields, first_unpadded, data_full}
use Rattle.record.specs.Written.{optional_items, AllBlank, Together}
use Rattle.record_laws.specs.Group.{placed_form, placed_from, Grouped, Readable}

-- the columns that the first field that may be left blank names
abbrev or_named : Optional → Optional → Optional
or_named never o = o
or_named (within a e) o = within a e

abbrev named : List Field → Optional
named [] = never
named (f ∷ fs) = or_named (optional_of f.form) (named fs)

-- the records, by one test of all
abbrev side_by_side : ℕ → Bool
side_by_side k = placed_from (blank_from (named (record_of k).fields)) (blank_past (named (record_of k).fields)) (record_of k).fields 0

record_of_grouped : (k : ℕ) → Grouped (record_of k).fields
unfolding record_of records placed_from
record_of_grouped k =
    ⊎_elim
    (λ h. record { from = _; past = _; lie = in_range side_by_side true 0 no_record k refl (omega arith) (omega arith) })
    (λ h. rw (record_of_past k h) (record { from = 0; past = 0; lie = refl }))
    (below_or_not k no_record)

-- a data line has no such field
placed_data : (ws : List ℕ) (at : ℕ) → placed_from 0 0 (map E ws) at ≡ true
unfolding placed_from
placed_data [] at = refl
placed_data (w ∷ ws) at = rw (le-leb 0 at (omega arith)) (placed_data ws (at + w))

data_row_grouped : (c : ℕ) → Grouped (data_row c).fields
unfolding data_row
data_row_grouped c = record { from = 0; past = 0; lie = placed_data (layout_of c).widths 0 }

pub data_together : (ws : List ℕ) (is : List Item) → Together (optional_items (map E ws) is)
unfolding optional_items
data_together [] is = Together.blank AllBlank.nil
data_together (w ∷ ws) is = data_together ws (drop 1 is)

-- the first fields of a row
placed_take : (a e n : ℕ) (fs : List Field) (at : ℕ) → placed_from a e fs at ≡ true → placed_from a e (take n fs) at ≡ true
unfolding placed_from
placed_take a e zero fs at h = refl
placed_take a e (suc n) [] at h = refl
placed_take a e (suc n) (f ∷ fs) at h =
    let p = placed_form a e at f.width f.form in
    and_both p _ (and_left p _ h) (placed_take a e n fs (at + f.width) (and_right p _ h))

first_grouped : (n : ℕ) (r : Row) → Grouped r.fields → Grouped (first_fields n r).fields
first_grouped n r g = record { from = g.from; past = g.past; lie = placed_take g.from g.past n r.fields 0 g.lie }

-- the rows by which lines are read: the records, and the first fields of a record and of a data line
unpadded_readable : (r : Row) → r.remainder ≡ blanks → Grouped r.fields → Readable r
unpadded_readable r e g = record { grouped = rw (whole_fields r e) g; filled = inl e }

pub record_of_readable : (k : ℕ) → Readable (record_of k)
record_of_readable k = unpadded_readable (record_of k) (record_of_unpadded k) (record_of_grouped k)

pub first_readable : (n k : ℕ) → Readable (first_fields n (record_of k))
first_readable n k =
    unpadded_readable (first_fields n (record_of k)) (first_unpadded n (record_of k) (record_of_unpadded k)) (first_grouped n (record_of k) (record_of_grouped k))

data_required : (ws : List ℕ) (is : List Item) → optional_items (map E ws) is ≡ []
unfolding optional_items
data_required [] is = refl
data_required (w ∷ ws) is = data_required ws (drop 1 is)

pub data_readable : (n c : ℕ) → Readable (first_fields n (data_row c))
unfolding data_row
data_readable n c = record {
  grouped = rw (data_full n c) (data_row_grouped c);
  filled = inr (record { required = λ is. rw (data_full n c) (data_required (layout_of c).widths is); free = refl });
}
