-- Where the fields of the row due begin: inside the line, and a text that may not be blank in its first column.
use Rattle.std.specs.Prelude.{◌≡◌, refl, Bool, true, List, [], ◌∷◌, ℕ, zero, suc, ◌+◌, ◌<◌, ltb, length, take}
use Rattle.std.proofs.Common.{ap, ⊎_elim, arith, ltb-true, length-take, get_or-take}
use Rattle.laws.specs.ChoiceLaws.{below_or_not}
use Rattle.laws.specs.Ranges.{all_are}
use Rattle.laws.specs.RangesLaws.{in_range}
use Rattle.codes.specs.Form.{Form, skip, text, identification, real, integer}
use Rattle.layout.specs.Columns.{field_start}
use Rattle.layout.specs.Layout.{layouts, layout_of}
use Rattle.layout.specs.LayoutLaws.{layout_of_past}
use Rattle.record_table.specs.Row.{Field, Row, blanks, with_padding, first_fields}
use Rattle.record_table.specs.Records.{X, records, record_of, data_row, no_record}
use Rattle.record_table.specs.TabledLaws.{record_of_past}
use Rattle.record_table.specs.PaddingLaws.{record_of_unpadded, whole_fields, first_unpadded, data_full}
use Rattle.walk.specs.Due.{row_due}
use Rattle.walk.specs.DueLaws.{row_due_is}
use Rattle.walk.specs.declared.Due.{Due}
use Rattle.record_laws.specs.Fault.{field_at, left_of}

-- how many columns may lie left of a field, plus one
abbrev pub room : Form → ℕ
room skip = 80
room text = 80
room identification = 1
room real = 80
room (integer r o) = 80

-- the fields of a row begin where they may, and the same as a test
abbrev pub Begin : Row → Type 0
Begin r = (k : ℕ) → k < length r.fields → left_of r.fields k < room (field_at r.fields k).form

abbrev begins : List Field → ℕ → Bool
begins fs k = ltb (left_of fs k) (room (field_at fs k).form)

abbrev begin : Row → Bool
begin r = all_are (begins r.fields) true 0 (length r.fields)

begin_sound : (r : Row) → begin r ≡ true → Begin r
begin_sound r t k h = ltb-true _ _ (in_range (begins r.fields) true 0 (length r.fields) k t (omega arith) (omega arith))

-- the records and the data lines, each by one test of all
records_begin : (k : ℕ) → Begin (record_of k)
unfolding record_of records field_start
records_begin k =
    ⊎_elim
    (λ h. begin_sound (record_of k) (in_range (λ (i : ℕ). begin (record_of i)) true 0 no_record k refl (omega arith) h))
    (λ h. rw (record_of_past k h) (λ j l. absurd (omega arith)))
    (below_or_not k no_record)

data_begin : (c : ℕ) → Begin (data_row c)
unfolding data_row layout_of layouts field_start
data_begin c =
    ⊎_elim
    (λ h. begin_sound (data_row c) (in_range (λ (i : ℕ). begin (data_row i)) true 0 8 c refl (omega arith) h))
    (λ h. rw (layout_of_past c h) (λ j l. absurd (omega arith)))
    (below_or_not c 8)

-- the first fields of a row begin where they do in it
left_of_take : (n : ℕ) (fs : List Field) (k : ℕ) → k < length (take n fs) → left_of (take n fs) k ≡ left_of fs k
unfolding field_start
left_of_take zero fs k h = absurd (omega arith)
left_of_take (suc n) [] k h = refl
left_of_take (suc n) (f ∷ fs) zero h = refl
left_of_take (suc n) (f ∷ fs) (suc k) h = ap (λ (x : ℕ). f.width + x) (left_of_take n fs k (omega arith))

cut_begin : (n : ℕ) (r : Row) → Begin r → Begin (first_fields n r)
cut_begin n r b k h =
    let m = length-take n r.fields in
    rw (left_of_take n r.fields k h, get_or-take n r.fields k (X 0) (omega arith)) (b k (omega arith))

pub due_begin : (d : Due) → Begin (row_due d)
due_begin d = row_due_is Begin records_begin (λ n k. cut_begin n (record_of k) (records_begin k)) (λ n c. cut_begin n (data_row c) (data_begin c)) d

-- with its padding the row due is a full line, or has none
whole_begin : (r : Row) → r.remainder ≡ blanks → Begin r → Begin (with_padding r)
whole_begin r e b = rw (whole_fields r e) b

pub padded_begin : (d : Due) → Begin (with_padding (row_due d))
padded_begin d =
    row_due_is (λ (r : Row). Begin (with_padding r)) (λ k. whole_begin (record_of k) (record_of_unpadded k) (records_begin k))
    (λ n k. whole_begin (first_fields n (record_of k)) (first_unpadded n (record_of k) (record_of_unpadded k)) (cut_begin n (record_of k) (records_begin k)))
    (λ n c. rw (data_full n c) (data_begin c)) d
