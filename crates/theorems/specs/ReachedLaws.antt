-- In every state that a file comes to, a full line of the numbers that are left holds some.
use Rattle.std.specs.Prelude.{◌≡◌, refl, Bool, true, false, List, ℕ, zero, suc, ◌-◌, ◌*◌, ◌<◌, ◌≤◌, ltb, eqb, length}
use Rattle.std.proofs.Common.{⊎_elim, arith, le-ltb}
use Rattle.std.proofs.lemmas.List.{length-map}
use Rattle.laws.specs.Choice.{pick}
use Rattle.laws.specs.ChoiceLaws.{below_or_not}
use Rattle.text.specs.Blank.{all_blank}
use Rattle.line.specs.Line.{refusal, columns, line_fault, filled}
use Rattle.line.specs.declared.Refusal.{Refusal}
use Rattle.delimiter.specs.Kind.{is_delimiter, dataset_number}
use Rattle.layout.specs.Layout.{numbers_of, fields_of}
use Rattle.layout.specs.LayoutLaws.{fields_of_some}
use Rattle.field.specs.Item.{Item}
use Rattle.record_table.specs.Records.{data_row, no_record}
use Rattle.record_table.specs.TypedSets.{kind_of, is_typed, untyped, sequence, Following, nothing, list, lists, data_lines, following}
use Rattle.record_table.proofs.TypedSetsLaws.{is_counted, is_counted_lem, typed_sound, following_past}
use Rattle.record.specs.Check.{taken, row_refusal}
use Rattle.record.specs.Declares.{natural_at, case_by, count_by, stored_by}
use Rattle.walk.specs.Due.{due, opening, record_due, list_row, may_close, may_continue, row_due, settled, next, count_place, counted, items_due, after_record, after_list, after_items, after}
use Rattle.walk.specs.Step.{state, unless, opened, outside_step, number_step, plain_step, typed_step, place_step, step_of}
use Rattle.walk.specs.declared.Due.{Due}
use Rattle.walk.specs.declared.Place.{Place}
use Rattle.walk.specs.declared.Place.TheVariants.{Outside, Number, Plain, Typed}
use Rattle.walk.specs.declared.State.{State}
use Rattle.std.specs.Prelude.{Result, Ok, Err}
use Rattle.judge.specs.Judge.{line_outcome, line_step}
use Rattle.walk_laws.specs.ListLaws.{settled_cases}
use Rattle.format_laws.specs.Asked.{ReadsAs, Asked}
use Rattle.format_laws.specs.Printed.{printed_for, Holding}
use Rattle.format_laws.proofs.DueLaws as DueLaws
use Rattle.theorems.specs.Reached.{Reached, begins, line, DueLine, printed_text}

-- Of what is due after a line.

settled_holding : (d : Due) → Holding d → Holding (settled d)
unfolding list_row
settled_holding d w = settled_cases Holding d (λ z p. w (omega arith)) (λ n. w)

stored_some : (c n : ℕ) → 0 < n * numbers_of c → 0 < length (data_row c).fields
unfolding data_row numbers_of fields_of
stored_some c n p =
    ⊎_elim
    (λ (h : c < 8). rw length-map (fields_of_some c h))
    (λ (h : 8 ≤ c). let z : 0 < n * 0 = rw (le-ltb c 8 h) at p in absurd (omega arith))
    (below_or_not c 8)

counted_holding : (f : Following) (n : ℕ) (is : List Item) (d : Due) → following d.kind ≡ f → is_counted n f ≡ true → Holding d → Holding (counted f is d)
unfolding list_row stored_by
counted_holding nothing n is d e t w = w
counted_holding (list r p i) n is d e t w = λ l. rw e (is_counted_lem n r p t).some
counted_holding (lists r p i j) n is d e t w = settled_holding (due d.kind d.at 0 (natural_at is i) (natural_at is j)) (λ l. rw e (is_counted_lem n r p t).some)
counted_holding (data_lines p) n is d e t w = λ l. rw e (stored_some (case_by is) (count_by is) (omega arith))

next_holding : (d : Due) → Holding d → Holding (next d)
unfolding list_row
next_holding d w = w

counts_holding : (d : Due) (is : List Item) → Holding d → Holding (counted (following d.kind) is (next d))
counts_holding d is w =
    ⊎_elim
    (λ h. counted_holding (following d.kind) (length (sequence d.kind)) is (next d) refl (typed_sound d.kind h).counted (next_holding d w))
    (λ h. rw (following_past d.kind h) (next_holding d w))
    (below_or_not d.kind untyped)

less_holding : (d : Due) (n : ℕ) → n ≤ d.left → Holding d → Holding (due d.kind d.at d.case n d.second)
unfolding list_row
less_holding d n h w = λ l. w (omega arith)

list_holding : (d : Due) → Holding d → Holding (after_list d)
unfolding after_list
list_holding d w =
    settled_holding (due d.kind d.at d.case (d.left - length (list_row d).fields) d.second)
    (less_holding d (d.left - length (list_row d).fields) (omega arith) w)

either_holding : (t : Bool) (d e : Due) → Holding d → Holding e → Holding (pick t d e)
either_holding true d e v w = v
either_holding false d e v w = w

after_holding : (d : Due) (cols : List ℕ) → Holding d → Holding (after d cols)
unfolding after_items after_record
after_holding d cols w =
    either_holding (ltb (record_due d) no_record) _ _
    (either_holding (eqb d.at (count_place (following d.kind))) _ _ (counts_holding d (items_due d cols) w) (next_holding d w)) (list_holding d w)

-- Of every place.

abbrev HeldAt : Place → Type 0
HeldAt Outside = Unit {0}
HeldAt Number = Unit {0}
HeldAt Plain = Unit {0}
HeldAt (Typed d) = Holding d

abbrev HeldBy : Result State Refusal → Type 0
HeldBy (Ok s) = HeldAt s.place
HeldBy (Err f) = Unit {0}

either_held : (t : Bool) (x y : Result State Refusal) → HeldBy x → HeldBy y → HeldBy (pick t x y)
either_held true x y v w = v
either_held false x y v w = w

unless_held : (f : Refusal) (s : State) → HeldAt s.place → HeldBy (unless f s)
unless_held f s w = by f.number f.column
  where
    by : (n c : ℕ) → HeldBy (unless (refusal n c) s)
    by zero c = w
    by (suc n) c = tt

opened_held : (t : Bool) (k : ℕ) → HeldAt (pick t (Typed (opening k)) Plain)
opened_held true k = λ l. absurd (omega arith)
opened_held false k = tt

place_held : (p : Place) (n : ℕ) (cols : List ℕ) → HeldAt p → HeldBy (place_step p n cols)
unfolding outside_step number_step plain_step typed_step opened
place_held Outside n cols w =
    either_held (all_blank cols) _ _ tt (either_held (is_delimiter cols) _ _ (either_held (ltb n 4096) _ _ tt tt) tt)
place_held Number n cols w = either_held (ltb 0 (dataset_number cols)) _ _ (opened_held (is_typed (dataset_number cols)) (kind_of (dataset_number cols))) tt
place_held Plain n cols w = either_held (is_delimiter cols) _ _ tt tt
place_held (Typed d) n cols w =
    either_held (is_delimiter cols) _ _ (either_held (may_close d) _ _ tt tt)
    (either_held (may_continue d) _ _ (unless_held (row_refusal (row_due d) cols) (state (Typed (after d cols)) n) (after_holding d cols w)) tt)

line_held : (s : State) (l : List ℕ) → HeldAt s.place → HeldBy (line_step s l)
unfolding line_step step_of
line_held s l w = by (line_fault true (columns true l)).number (line_fault true (columns true l)).column
  where
    by : (n c : ℕ) → HeldBy (line_outcome s (refusal n c) (columns true l))
    by zero c = place_held s.place s.sets (filled (columns true l)) w
    by (suc n) c = tt

-- Of every state that is reached.

reached_held : {s : State} → Reached s → HeldAt s.place
reached_held begins = tt
reached_held (line {s} {t} l r e) = rw e at (line_held s l (reached_held r))

pub reached_holding : {s : State} → Reached s → (d : Due) → s.place ≡ Typed d → Holding d
reached_holding r d p = rw p at (reached_held r)

pub reached_reads : {s : State} → Reached s → (d : Due) → s.place ≡ Typed d → may_continue d ≡ true
    → (cols : List ℕ) → ReadsAs (printed_for d cols) (taken (row_due d) cols).fields
reached_reads r d p m cols = DueLaws.printed_due d cols m (reached_holding r d p)

-- so every line that is due in a file may be asked by its printed FORMAT
pub due_asked : {s : State} {l : List ℕ} (a : DueLine s l) → Asked s l (printed_text a)
due_asked {l = l} a = record {
  due = a.due;
  place = a.place;
  more = a.more;
  inside = a.inside;
  reads = reached_reads a.reached a.due a.place a.more (filled (columns true l));
  present = a.present;
}
