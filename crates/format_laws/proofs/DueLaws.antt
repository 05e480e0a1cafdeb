-- The printed FORMAT of the line that is due reads as the fields that are taken of it.
use Rattle.std.specs.Prelude.{◌≡◌, refl, Bool, true, false, List, ℕ, ◌≤◌, ◌<◌, min, eqb, length, take}
use Rattle.std.proofs.Common.{sym, ap, ◌∙◌, arith, take_all}
use Rattle.std.proofs.Math.Logic.{⊎_elim}
use borrow.Author.Tests.{lt-ltb, le-ltb, ltb-true, eqb-true, eqb-false}
use Rattle.laws.specs.ChoiceLaws.{below_or_not}
use Rattle.laws.specs.TableLaws.{agree_below}
use Rattle.format.specs.Reading.{reading_of}
use Rattle.format.specs.Computed.{computed_reading}
use Rattle.layout.specs.LayoutLaws.{layout_of_past}
use Rattle.record_table.specs.Row.{Field, Row, first_fields}
use Rattle.record_table.specs.Records.{record_of, data_row, no_record, trace_entries, order_lists}
use Rattle.record_table.specs.Records as Records
use Rattle.record_table.specs.TypedSets.{kind58, kind82, kind1815}
use Rattle.record.specs.Check.{taken}
use Rattle.record.specs.TakenLaws.{taken_record, taken_first, data_due_all}
use Rattle.walk.specs.Due.{record_due, list_row, row_due, may_continue}
use Rattle.walk.specs.DueLaws.{list_row_58, list_row_82, list_row_1815, list_row_other}
use Rattle.walk.specs.declared.Due.{Due}
use Rattle.format_reader.specs.Question.{kind_of}
use Rattle.format_laws.specs.Asked.{ReadsAs}
use Rattle.format_laws.specs.Printed.{records, text_in, record_text, print_at, entries_text, orders_text, last_text, list_text, printed_for, Holding}
use Rattle.format_laws.proofs.PrintedLaws.{as_fields, record_reads, entries_reads, orders_reads, last_reads}

-- each record's first print, in one test
record_text_lem : (k : ℕ) → k < no_record → ReadsAs (record_text k) (record_of k).fields
unfolding computed_reading records text_in record_of Records.records kind_of
record_text_lem k h = agree_below (λ (j : ℕ). reading_of (record_text j)) (λ (j : ℕ). as_fields (record_of j).fields) no_record k refl h

-- a list's line of any number of fields: no more than the full line has
entries_cut : (n : ℕ) → 1 ≤ n → take (min n 8) (record_of trace_entries).fields ≡ take n (record_of trace_entries).fields
unfolding record_of Records.records
entries_cut n h = ⊎_elim (λ l. let e : min n 8 ≡ n = omega arith in rw e refl)
    (λ l. let e : min n 8 ≡ 8 = omega arith in rw e (sym (take_all n (record_of trace_entries).fields (omega arith)))) (below_or_not n 8)

orders_cut : (n : ℕ) → 1 ≤ n → take (min n 5) (record_of order_lists).fields ≡ take n (record_of order_lists).fields
unfolding record_of Records.records
orders_cut n h = ⊎_elim (λ l. let e : min n 5 ≡ n = omega arith in rw e refl)
    (λ l. let e : min n 5 ≡ 5 = omega arith in rw e (sym (take_all n (record_of order_lists).fields (omega arith)))) (below_or_not n 5)

entries_due : (n : ℕ) (line : List ℕ) → 1 ≤ n → ReadsAs (entries_text (min n 8)) (taken (first_fields n (record_of trace_entries)) line).fields
entries_due n line h = rw (taken_first n trace_entries line, ← entries_cut n h) (entries_reads (min n 8) (omega arith) (omega arith))

orders_due : (n : ℕ) (line : List ℕ) → 1 ≤ n → ReadsAs (orders_text (min n 5)) (taken (first_fields n (record_of order_lists)) line).fields
orders_due n line h = rw (taken_first n order_lists line, ← orders_cut n h) (orders_reads (min n 5) (omega arith) (omega arith))

data_whole : (c n : ℕ) (line : List ℕ) → c < 8 → 6 ≤ n → ReadsAs (last_text c 6 line) (taken (first_fields n (data_row c)) line).fields
data_whole c n line b l =
    let six : 6 ≤ 6 = omega arith in
    let same : (taken (first_fields 6 (data_row c)) line).fields ≡ (taken (first_fields n (data_row c)) line).fields =
    data_due_all c 6 line six ∙ sym (data_due_all c n line l) in
    last_reads c 6 line b (omega arith) six ∙ ap as_fields same

data_due_lem : (c n : ℕ) (line : List ℕ) → c < 8 → 1 ≤ n → ReadsAs (last_text c (min n 6) line) (taken (first_fields n (data_row c)) line).fields
data_due_lem c n line b h =
    ⊎_elim
    (λ l. let e : min n 6 ≡ n = omega arith in rw e (last_reads c n line b h (omega arith)))
    (λ l. let e : min n 6 ≡ 6 = omega arith in rw e (data_whole c n line b l))
    (below_or_not n 6)

-- a data line that holds some number is of one of the eight cases, and no line of no record does
data_case : (c : ℕ) → 0 < length (data_row c).fields → c < 8
unfolding data_row
data_case c p =
    ⊎_elim (λ h. h) (λ h. let z : 0 < 0 = rw (layout_of_past c h) at p in absurd (omega arith)) (below_or_not c 8)

no_record_lem : 0 < length (record_of no_record).fields → ⊥
unfolding record_of Records.records
no_record_lem p = omega arith

module _ (d : Due) (line : List ℕ) where
  due_record : record_due d < no_record → ReadsAs (record_text (record_due d)) (taken (row_due d) line).fields
  unfolding row_due
  due_record h = rw (lt-ltb (record_due d) no_record h, taken_record (record_due d) line) (record_text_lem (record_due d) h)

  -- what is taken of a line of numbers, by its full line
  abbrev listed : Row → List Field
  listed full = (taken (first_fields d.left full) line).fields

  list_58 : 1 ≤ d.left → 0 < length (list_row d).fields → eqb d.kind kind58 ≡ true → ReadsAs (list_text d line) (listed (list_row d))
  list_58 n w a =
      let row = list_row_58 d (eqb-true d.kind kind58 a) in
      rw (a, row) (data_due_lem d.case d.left line (data_case d.case (rw row at w)) n)

  list_82 : 1 ≤ d.left → eqb d.kind kind58 ≡ false → eqb d.kind kind82 ≡ true → ReadsAs (list_text d line) (listed (list_row d))
  list_82 n a b = rw (a, b, list_row_82 d (eqb-true d.kind kind82 b)) (entries_due d.left line n)

  list_1815 : 1 ≤ d.left → eqb d.kind kind58 ≡ false → eqb d.kind kind82 ≡ false → eqb d.kind kind1815 ≡ true → ReadsAs (list_text d line) (listed (list_row d))
  list_1815 n a b c = rw (a, b, list_row_1815 d (eqb-true d.kind kind1815 c)) (orders_due d.left line n)

  -- no other set has numbers after its records
  list_none : 0 < length (list_row d).fields → eqb d.kind kind58 ≡ false → eqb d.kind kind82 ≡ false → eqb d.kind kind1815 ≡ false → ⊥
  list_none w a b c =
      let none = list_row_other d (eqb-false d.kind kind58 a) (eqb-false d.kind kind82 b) (eqb-false d.kind kind1815 c) in
      no_record_lem (rw none at w)

  due_list : 1 ≤ d.left → 0 < length (list_row d).fields → ReadsAs (list_text d line) (listed (list_row d))
  due_list n w = by (eqb d.kind kind58) (eqb d.kind kind82) (eqb d.kind kind1815) refl refl refl
    where
      by : (s t u : Bool) → eqb d.kind kind58 ≡ s → eqb d.kind kind82 ≡ t → eqb d.kind kind1815 ≡ u → ReadsAs (list_text d line) (listed (list_row d))
      by true t u a b c = list_58 n w a
      by false true u a b c = list_82 n a b
      by false false true a b c = list_1815 n a b c
      by false false false a b c = absurd (list_none w a b c)

  some_left : no_record ≤ record_due d → may_continue d ≡ true → 0 < d.left
  unfolding may_continue
  some_left h m = ltb-true 0 d.left (rw (le-ltb (record_due d) no_record h) at m)

  due_listed : no_record ≤ record_due d → ReadsAs (list_text d line) (listed (list_row d)) → ReadsAs (list_text d line) (taken (row_due d) line).fields
  unfolding row_due
  due_listed h r = rw (le-ltb (record_due d) no_record h) r

  -- by any print of the record that is due
  pub print_due : (i : ℕ) → i < length records → (print_at i).number ≡ record_due d → record_due d < no_record → ReadsAs (print_at i).text (taken (row_due d) line).fields
  unfolding row_due
  print_due i l e h = rw (lt-ltb (record_due d) no_record h, taken_record (record_due d) line, ← e) (record_reads i l)

  pub printed_due : may_continue d ≡ true → Holding d → ReadsAs (printed_for d line) (taken (row_due d) line).fields
  unfolding printed_for
  printed_due m w =
      ⊎_elim
      (λ h. rw (lt-ltb (record_due d) no_record h) (due_record h))
      (λ h. let n = some_left h m in rw (le-ltb (record_due d) no_record h) (due_listed h (due_list n (w (omega arith)))))
      (below_or_not (record_due d) no_record)
