-- Each printed FORMAT reads as its record's fields, so reading by it is reading by the record.
use Rattle.std.specs.Prelude.{◌≡◌, refl, Bool, true, false, List, [], ◌∷◌, map, ℕ, ◌+◌, ◌-◌, ◌*◌, ◌/◌, ◌%◌, ◌≤◌, ◌<◌, length, take}
use Rattle.std.proofs.Common.{arith}
use Rattle.laws.specs.Choice.{pick}
use Rattle.laws.specs.Ranges.{all_are}
use Rattle.laws.specs.RangesLaws.{in_range}
use Rattle.laws.specs.TableLaws.{agree_below}
use Rattle.text.specs.Blank.{all_blank}
use Rattle.format.specs.Reading.{Reading, fields, reading_of}
use Rattle.format.specs.Computed.{computed_reading}
use Rattle.line.specs.Line.{filled}
use Rattle.layout.specs.Layout.{layouts, layout_of}
use Rattle.field.specs.Field.{may_blank}
use Rattle.record_table.specs.Row.{Field, first_fields}
use Rattle.record_table.specs.Records.{E, record_of, data_row, no_record, trace_entries, order_lists}
use Rattle.record_table.specs.Records as Records
use Rattle.record.specs.Check.{remainder_in, taken}
use Rattle.record.specs.TakenLaws.{data_blank, data_filled}
use Rattle.format_reader.specs.Question.{kind_of, field_of, answer_of}
use Rattle.format_laws.specs.Asked.{format_field, ReadsAs, left_blank}
use Rattle.format_laws.specs.SameLaws.{by_format}
use Rattle.format_laws.specs.Printed.{records, print_at, cases, case_at, is_among, entries_texts, entries_text, orders_texts, orders_text, data_texts, data_text, last_text}

abbrev pub as_fields : List Field → Reading
as_fields fs = fields (map format_field fs)

-- every record of the table is printed
printed_all : all_are (is_among records) true 0 no_record ≡ true
unfolding records is_among
printed_all = refl

pub is_printed : (k : ℕ) → k < no_record → is_among records k ≡ true
is_printed k h = in_range (is_among records) true 0 no_record k printed_all (omega arith) h

-- as its fields: one test of all prints
pub record_reads : (i : ℕ) → i < length records → ReadsAs (print_at i).text (record_of (print_at i).number).fields
unfolding computed_reading records record_of Records.records kind_of
record_reads i h =
    agree_below (λ (j : ℕ). reading_of (print_at j).text) (λ (j : ℕ). as_fields (record_of (print_at j).number).fields) (length records) i refl h

pub case_reads : (i : ℕ) → i < length cases → ReadsAs (case_at i).text (data_row (case_at i).number).fields
unfolding computed_reading cases data_row layout_of layouts kind_of
case_reads i h =
    agree_below (λ (j : ℕ). reading_of (case_at j).text) (λ (j : ℕ). as_fields (data_row (case_at j).number).fields) (length cases) i refl h

-- and of what a last line holds
from_one : {A : Type 0} (f g : ℕ → A) (n : ℕ) → 1 ≤ n → f (n - 1 + 1) ≡ g (n - 1 + 1) → f n ≡ g n
from_one f g n h e = let q : n - 1 + 1 ≡ n = omega arith in rw q at e

pub entries_reads : (n : ℕ) → 1 ≤ n → n ≤ 8 → ReadsAs (entries_text n) (take n (record_of trace_entries).fields)
unfolding computed_reading entries_texts record_of Records.records kind_of
entries_reads n l h =
    from_one (λ (j : ℕ). reading_of (entries_text j)) (λ (j : ℕ). as_fields (take j (record_of trace_entries).fields)) n l
    (agree_below (λ (j : ℕ). reading_of (entries_text (j + 1))) (λ (j : ℕ). as_fields (take (j + 1) (record_of trace_entries).fields)) 8 (n - 1) refl (omega arith))

pub orders_reads : (n : ℕ) → 1 ≤ n → n ≤ 5 → ReadsAs (orders_text n) (take n (record_of order_lists).fields)
unfolding computed_reading orders_texts record_of Records.records kind_of
orders_reads n l h =
    from_one (λ (j : ℕ). reading_of (orders_text j)) (λ (j : ℕ). as_fields (take j (record_of order_lists).fields)) n l
    (agree_below (λ (j : ℕ). reading_of (orders_text (j + 1))) (λ (j : ℕ). as_fields (take (j + 1) (record_of order_lists).fields)) 5 (n - 1) refl (omega arith))

data_table : (i : ℕ) → i < 48 → reading_of (data_text (i / 6) (i % 6 + 1)) ≡ as_fields (take (i % 6 + 1) (data_row (i / 6)).fields)
unfolding computed_reading data_texts data_row layout_of layouts kind_of
data_table i h =
    agree_below (λ (j : ℕ). reading_of (data_text (j / 6) (j % 6 + 1))) (λ (j : ℕ). as_fields (take (j % 6 + 1) (data_row (j / 6)).fields)) 48 i refl h

pub data_reads : (c n : ℕ) → c < 8 → 1 ≤ n → n ≤ 6 → ReadsAs (data_text c n) (take n (data_row c).fields)
data_reads c n b l h =
    let i : ℕ = c * 6 + (n - 1) in
    let d : (c * 6 + (n - 1)) / 6 ≡ c = omega arith in
    let m : (c * 6 + (n - 1)) % 6 + 1 ≡ n = omega arith in
    rw (d, m) at (data_table i (omega arith))

-- a data line has six numbers at most, and none that may be left blank
data_whole : (c : ℕ) → c < 8 → take 6 (data_row c).fields ≡ (data_row c).fields
unfolding data_row layout_of layouts
data_whole c h = agree_below (λ (j : ℕ). take 6 (data_row j).fields) (λ (j : ℕ). (data_row j).fields) 8 c refl h

pub last_reads : (c n : ℕ) (line : List ℕ) → c < 8 → 1 ≤ n → n ≤ 6 → ReadsAs (last_text c n line) (taken (first_fields n (data_row c)) line).fields
last_reads c n line b l h = by (all_blank (remainder_in (first_fields n (data_row c)) line)) refl
  where
    by : (t : Bool) → all_blank (remainder_in (first_fields n (data_row c)) line) ≡ t
        → ReadsAs (pick t (data_text c n) (data_text c 6)) (taken (first_fields n (data_row c)) line).fields
    by true e = rw (data_blank c n line e) (data_reads c n b l h)
    by false e = rw (data_filled c n line e) (rw (data_whole c b) at (data_reads c 6 b (omega arith) (omega arith)))

data_present : (ws : List ℕ) (line : List ℕ) → left_blank (map E ws) line ≡ false
unfolding left_blank may_blank
data_present [] line = refl
data_present (w ∷ ws) line = data_present ws line

-- "For every record of document 01 and every line, reading by the printed FORMAT gives the same fields or the same refusal as the built-in reader"
pub by_print : (i : ℕ) → i < length records → (k : ℕ) (line : List ℕ) → left_blank (record_of (print_at i).number).fields (filled line) ≡ false
    → answer_of (print_at i).text k line ≡ field_of (record_of (print_at i).number).fields k line
by_print i h k line b = by_format (print_at i).text (record_of (print_at i).number).fields (record_reads i h) k line b

pub by_case : (i : ℕ) → i < length cases → (k : ℕ) (line : List ℕ) → answer_of (case_at i).text k line ≡ field_of (data_row (case_at i).number).fields k line
unfolding data_row
by_case i h k line =
    by_format (case_at i).text (data_row (case_at i).number).fields (case_reads i h) k line (data_present (layout_of (case_at i).number).widths (filled line))
