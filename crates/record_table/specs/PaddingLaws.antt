-- Which rows have padding: the first fields of a data line, up to the full line, and no other.
use Rattle.std.specs.Prelude.{◌≡◌, refl, Bool, true, false, List, ℕ, drop}
use Rattle.std.proofs.Common.{sym, ap, ◌∙◌, ⊎_elim, append-nil, arith, take-append-drop}
use Rattle.laws.specs.ChoiceLaws.{below_or_not, false_not_true}
use Rattle.laws.specs.RangesLaws.{in_range}
use Rattle.record_table.specs.Row.{Field, Remainder, blanks, padding, Row, padding_fields, with_padding, first_fields}
use Rattle.record_table.specs.Records.{records, record_of, data_row, no_record}
use Rattle.record_table.specs.TabledLaws.{record_of_past}

-- the records, by one test of all
abbrev is_blanks : Remainder → Bool
is_blanks blanks = true
is_blanks (padding fs) = false

is_blanks_lem : (m : Remainder) → is_blanks m ≡ true → m ≡ blanks
is_blanks_lem blanks t = refl
is_blanks_lem (padding fs) t = false_not_true t

pub record_of_unpadded : (k : ℕ) → (record_of k).remainder ≡ blanks
unfolding record_of records
record_of_unpadded k =
    ⊎_elim
    (λ h. is_blanks_lem _ (in_range (λ (i : ℕ). is_blanks (record_of i).remainder) true 0 no_record k refl (omega arith) h))
    (λ h. rw (record_of_past k h) refl)
    (below_or_not k no_record)

-- a row without padding is its full line, and so are the first fields of one
pub whole_fields : (r : Row) → r.remainder ≡ blanks → (with_padding r).fields ≡ r.fields
whole_fields r e = rw e (append-nil r.fields)

pub whole_row : (r : Row) → r.remainder ≡ blanks → with_padding r ≡ r
whole_row r e =
    ap (λ (fs : List Field). record { fields = fs; remainder = blanks; condition = r.condition }) (whole_fields r e)
    ∙ ap (λ (m : Remainder). record { fields = r.fields; remainder = m; condition = r.condition }) (sym e)

pub first_unpadded : (n : ℕ) (r : Row) → r.remainder ≡ blanks → (first_fields n r).remainder ≡ blanks
first_unpadded n r e = rw e refl

-- of a data line the padding is what is cut off, and with it the line is full
pub data_padding : (n c : ℕ) → padding_fields (first_fields n (data_row c)) ≡ drop n (data_row c).fields
unfolding data_row
data_padding n c = append-nil _

pub data_full : (n c : ℕ) → (with_padding (first_fields n (data_row c))).fields ≡ (data_row c).fields
data_full n c = rw (data_padding n c) (take-append-drop n (data_row c).fields)
