-- The row that is due in a typed set fits the line's 80 columns with its padding, and lines can be read by it.
use Rattle.std.specs.Prelude.{◌≡◌, refl, Bool, true, List, [], ◌∷◌, map, ℕ, zero, suc, ◌≤◌, leb, take}
use Rattle.std.proofs.Common.{ap, ⊎_elim, le_trans, arith, leb-true}
use Rattle.laws.specs.ChoiceLaws.{below_or_not}
use Rattle.laws.specs.RangesLaws.{in_range}
use Rattle.layout.specs.Columns.{total}
use Rattle.layout.specs.Layout.{layout_of}
use Rattle.layout.specs.LayoutLaws.{total_inside}
use Rattle.record_table.specs.Row.{Field, Row, blanks, span, with_padding, first_fields}
use Rattle.record_table.specs.Records.{E, records, record_of, data_row, no_record}
use Rattle.record_table.specs.TabledLaws.{record_of_past}
use Rattle.record_table.specs.PaddingLaws.{record_of_unpadded, whole_fields, first_unpadded, data_full}
use Rattle.record.specs.CheckLaws.{total_take}
use Rattle.record_laws.specs.Group.{Readable}
use Rattle.record_laws.specs.RowGroupLaws.{record_of_readable, first_readable, data_readable}
use Rattle.walk.specs.Due.{row_due}
use Rattle.walk.specs.DueLaws.{row_due_is}
use Rattle.walk.specs.declared.Due.{Due}

-- the widths of a row's fields
abbrev widths : List Field → List ℕ
widths fs = map (λ (f : Field). f.width) fs

-- a row's fields lie in 80 columns
abbrev Fits : Row → Type 0
Fits r = total (widths r.fields) ≤ 80

-- the records, by one test of all thirty
abbrev narrow : ℕ → Bool
narrow k = leb (total (widths (record_of k).fields)) 80

record_of_fits : (k : ℕ) → Fits (record_of k)
unfolding record_of records total
record_of_fits k =
    ⊎_elim
    (λ h. leb-true _ _ (in_range narrow true 0 no_record k refl (omega arith) (omega arith)))
    (λ h. rw (record_of_past k h) (omega arith))
    (below_or_not k no_record)

-- the fields of a data line have its layout's widths
widths_data : (ws : List ℕ) → widths (map E ws) ≡ ws
widths_data [] = refl
widths_data (w ∷ ws) = ap (◌∷◌ w) (widths_data ws)

data_row_fits : (c : ℕ) → Fits (data_row c)
unfolding data_row
data_row_fits c = rw (widths_data (layout_of c).widths) (total_inside c)

-- the first fields of a row
widths_take : (n : ℕ) (fs : List Field) → widths (take n fs) ≡ take n (widths fs)
widths_take zero fs = refl
widths_take (suc n) [] = refl
widths_take (suc n) (f ∷ fs) = ap (◌∷◌ f.width) (widths_take n fs)

cut_fits : (n : ℕ) (r : Row) → Fits r → Fits (first_fields n r)
cut_fits n r h = rw (widths_take n r.fields) (le_trans (total_take (widths r.fields) n) h)

whole_fits : (r : Row) → r.remainder ≡ blanks → Fits r → Fits (with_padding r)
whole_fits r e h = rw (whole_fields r e) h

-- the row of the next line, a record or what is left of a list
pub row_due_fits : (d : Due) → span (with_padding (row_due d)).fields ≤ 80
row_due_fits d =
    row_due_is (λ (r : Row). Fits (with_padding r)) (λ k. whole_fits (record_of k) (record_of_unpadded k) (record_of_fits k))
    (λ n k. whole_fits (first_fields n (record_of k)) (first_unpadded n (record_of k) (record_of_unpadded k)) (cut_fits n (record_of k) (record_of_fits k)))
    (λ n c. rw (data_full n c) (data_row_fits c)) d

pub row_due_readable : (d : Due) → Readable (row_due d)
row_due_readable d = row_due_is Readable record_of_readable first_readable data_readable d
