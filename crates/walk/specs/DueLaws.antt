-- The code's table of records, the numbers that a record gives, and the rows of lists.
use Rattle.std.specs.Prelude.{◌≡◌, Bool, true, false, not, ◌||◌, List, [], ◌∷◌, ℕ, zero, suc, ◌-◌, ◌≤◌, ◌<◌, leb, eqb, ltb, get_or, take, Ok, Err, Some, None, is_some, unwrap_or, slice_get}
use Rattle.std.proofs.Math.Path.{refl}
use Rattle.std.proofs.Common.{sym, ap, ◌∙◌, ⊎_elim, arith, leb-true, ltb-true, ltb-false, lt-ltb, le-ltb, eqb-true, ne_eqb, le-leb}
use Rattle.std.proofs.lemmas.Bool.{eqb-false, lt-leb}
use Rattle.std.proofs.Math.ListN.{length, get_or-eq_default}
use Rattle.std.proofs.lemmas.List.{length-map}
use Rattle.std.proofs.lemmas.Option.{none-some, same_Some, slice_get-get_or, slice_get_past, unwrap_or-slice_get}
use Rattle.laws.specs.Choice.{pick}
use Rattle.laws.specs.ChoiceLaws.{below_or_not, false_not_true}
use Rattle.laws.specs.Ranges.{all_are}
use Rattle.laws.specs.RangesLaws.{in_range}
use Rattle.integer.specs.Integer.{Held, valued}
use Rattle.line.specs.Line.{passed}
use Rattle.line.specs.declared.Refusal.{Refusal}
use Rattle.delimiter.specs.Kind.{positive}
use Rattle.layout.specs.Layout.{layouts, layout_of, fields_of, numbers_of}
use Rattle.field.specs.Item.{natural, Item}
use Rattle.field.specs.Field.{integer_item}
use Rattle.record_table.specs.Row.{Row, none, breach, first_fields}
use Rattle.record_table.specs.Records.{records, record_of, data_row, no_record, trace_entries, order_lists}
use Rattle.record_table.specs.TypedSets.{typed_sets, sequence, untyped, Following, nothing, list, lists, data_lines, kind58, kind82, kind1815, line_seven, before_axes, most_records, following}
use Rattle.record.specs.Check.{or_else, otherwise, stray_fault, fields_fault, stray, fields_refusal, condition_fault, taken, taken_refusal, row_refusal, items_of}
use Rattle.record.specs.TakenLaws.{taken_is, taken_first}
use Rattle.record_table.proofs.TypedSetsLaws.{is_counted, is_counted_lem, typed_sound, sequence_past, following_past}
use Rattle.record_table.specs.TabledLaws.{record_of_past}
use Rattle.record.specs.Declares.{natural_at, number_in, case_in, stored_in}
use Rattle.record.specs.DeclaresLaws.{declares_items}
use Rattle.walk.specs.declared.Due.{Due}
use Rattle.walk.specs.Due.{due, record_due, due_record, list_row, row_due, settled, after_list, full_row, count_place, next, items_due, after_record, after_items, after, may_close, may_continue}

-- what the code's answer says of the number
pub due_record_some : (n r : ℕ) → due_record n ≡ Some r → (n ≡ r) × (n < no_record)
unfolding due_record
due_record_some n r = by (ltb n no_record) refl
  where
    by : (t : Bool) → ltb n no_record ≡ t → pick t (Some n) None ≡ Some r → (n ≡ r) × (n < no_record)
    by true h e = (same_Some n r e, ltb-true n no_record h)
    by false h e = absurd (none-some r e)

pub due_record_none : (n : ℕ) → due_record n ≡ None → no_record ≤ n
unfolding due_record
due_record_none n = by (ltb n no_record) refl
  where
    by : (t : Bool) → ltb n no_record ≡ t → pick t (Some n) None ≡ None → no_record ≤ n
    by true h e = absurd (none-some n (sym e))
    by false h e = ltb-false n no_record h

pub due_record_is_some : (n : ℕ) → is_some (due_record n) ≡ ltb n no_record
unfolding due_record
due_record_is_some n = by (ltb n no_record)
  where
    by : (t : Bool) → is_some (pick t (Some n) None) ≡ t
    by true = refl
    by false = refl

-- no sequence is longer than the longest
abbrev short : ℕ → Bool
short k = leb (length (sequence k)) most_records

sequence_short : (k : ℕ) → length (sequence k) ≤ most_records
unfolding sequence typed_sets
sequence_short k =
    ⊎_elim (λ h. leb-true _ _ (in_range short true 0 untyped k refl (omega arith) (omega arith))) (λ h. rw (sequence_past k h) (omega arith)) (below_or_not k untyped)

module _ (d : Due) where
  pub record_due_kind_past : untyped ≤ d.kind → record_due d ≡ no_record
  unfolding record_due
  record_due_kind_past h = rw (sequence_past d.kind h) refl

  pub record_due_at_past : most_records ≤ d.at → record_due d ≡ no_record
  unfolding record_due
  record_due_at_past h = let s : length (sequence d.kind) ≤ most_records = sequence_short d.kind in get_or-eq_default (sequence d.kind) no_record (omega arith)

  -- a record is due only before as many have come
  pub record_due_at : record_due d < no_record → d.at < most_records
  record_due_at h =
      ⊎_elim (λ l. l) (λ l. let e : record_due d ≡ no_record = record_due_at_past l in absurd (omega arith)) (below_or_not d.at most_records)

  -- the code's sequence of a kind
  pub record_due_sequence : (rs : List ℕ) (k : ℕ) → rs ≡ sequence k → d.kind ≡ k → get_or rs d.at no_record ≡ record_due d
  unfolding record_due
  record_due_sequence rs k e h = rw (e, h) refl

  -- the record due stands in its kind's sequence, and None past its end
  pub due_record_found : slice_get (sequence d.kind) d.at ≡ due_record (record_due d)
  unfolding record_due due_record
  due_record_found = ⊎_elim inside past (below_or_not d.at (length (sequence d.kind)))
    where
      past : length (sequence d.kind) ≤ d.at → slice_get (sequence d.kind) d.at ≡ due_record (record_due d)
      past h = slice_get_past (sequence d.kind) d.at h ∙ rw (get_or-eq_default (sequence d.kind) no_record h) refl

      inside : d.at < length (sequence d.kind) → slice_get (sequence d.kind) d.at ≡ due_record (record_due d)
      inside h =
          let b : get_or (sequence d.kind) d.at no_record < no_record =
          ⊎_elim
          (λ k. (typed_sound d.kind k).below d.at h)
          (λ k. let e : length (sequence d.kind) ≡ 0 = ap length (sequence_past d.kind k) in absurd (omega arith))
          (below_or_not d.kind untyped)
          in
          slice_get-get_or (sequence d.kind) d.at no_record h ∙ rw (lt-ltb _ _ b) refl

  -- so the answer tells the number: `no_record` where it is None
  pub due_record_tells : unwrap_or (due_record (record_due d)) no_record ≡ record_due d
  unfolding record_due
  due_record_tells = rw (← due_record_found) (unwrap_or-slice_get (sequence d.kind) d.at no_record)

-- inside a list nothing else is read
pub get_d_inside : (l : List ℕ) (i d e : ℕ) → i < length l → get_or l i d ≡ get_or l i e
get_d_inside [] i d e h = absurd (omega arith)
get_d_inside (x ∷ xs) zero d e h = refl
get_d_inside (x ∷ xs) (suc i) d e h = get_d_inside xs i d e (omega arith)

-- the number of an integer item is that of an integer above zero, and 0 otherwise
pub natural_positive : (i : Held) → natural (integer_item i) ≡ positive i
natural_positive (Err f) = refl
natural_positive (Ok i) = by i.minus i.size
  where
    by : (n : Bool) (v : ℕ) → natural (integer_item (valued n v)) ≡ positive (valued n v)
    by true zero = refl
    by true (suc v) = refl
    by false v = refl

-- a value stores three numbers at most
abbrev few : ℕ → Bool
few c = leb (numbers_of c) 3

pub numbers_of_few : (c : ℕ) → numbers_of c ≤ 3
unfolding numbers_of layout_of layouts
numbers_of_few c =
    ⊎_elim (λ h. leb-true _ _ (in_range few true 0 8 c refl (omega arith) (omega arith))) (λ h. simp (le-ltb c 8 h) (omega arith)) (below_or_not c 8)

-- how many fields a full line of a list has
pub data_row_length : (c : ℕ) → length (data_row c).fields ≡ fields_of c
unfolding data_row fields_of
data_row_length c = simp length-map

-- after a line of a list: what is left of it
pub after_list_left : (d : Due) (n l : ℕ) → n ≡ length (list_row d).fields → l ≡ d.left - n
    → settled (due d.kind d.at d.case l d.second) ≡ after_list d
unfolding after_list
after_list_left d n l e q = rw (q, e) refl

-- a refusal by the fields stays as it is where nothing more is refused
or_else_passed : (n c : ℕ) (g : Refusal) → otherwise g passed ≡ g → otherwise (or_else n c g) passed ≡ or_else n c g
or_else_passed zero c g e = e
or_else_passed (suc n) c g e = refl

stray_fault_passed : (c : ℕ) → otherwise (stray_fault c) passed ≡ stray_fault c
stray_fault_passed zero = refl
stray_fault_passed (suc c) = refl

-- a row that asks nothing of its fields together refuses as those do that are taken
taken_refusal_none : (r : Row) (line : List ℕ) → r.condition ≡ none → taken_refusal r line ≡ fields_refusal r.fields line
unfolding taken_refusal fields_refusal condition_fault breach
taken_refusal_none r line e =
    rw e (or_else_passed (fields_fault r.fields 0 line).number (fields_fault r.fields 0 line).column (stray_fault (stray r.fields 0 line))
    (stray_fault_passed (stray r.fields 0 line)))

row_refusal_none : (r : Row) (line : List ℕ) → r.condition ≡ none → row_refusal r line ≡ fields_refusal (taken r line).fields line
unfolding row_refusal
row_refusal_none r line e = taken_refusal_none (taken r line) line (taken_is r line (λ (s : Row). s.condition ≡ none) e e)

-- a full line of what follows the records is such a row
full_row_none : (n : ℕ) (f : Following) (c : ℕ) → is_counted n f ≡ true → (full_row f c).condition ≡ none
unfolding data_row
full_row_none n nothing c t = rw (record_of_past no_record (omega arith)) refl
full_row_none n (list r p i) c t = (is_counted_lem n r p t).free
full_row_none n (lists r p i j) c t = (is_counted_lem n r p t).free
full_row_none n (data_lines p) c t = refl

list_row_none : (d : Due) → (list_row d).condition ≡ none
unfolding list_row
list_row_none d =
    ⊎_elim
    (λ h. full_row_none (length (sequence d.kind)) (following d.kind) d.case (typed_sound d.kind h).counted)
    (λ h. rw (following_past d.kind h) (full_row_none 0 nothing d.case refl))
    (below_or_not d.kind untyped)

-- what holds of every record, and of the first fields of every record and of every data line, holds of the row due
pub row_due_is : (P : Row → Type 0) → ((k : ℕ) → P (record_of k)) → ((n k : ℕ) → P (first_fields n (record_of k))) → ((n c : ℕ) → P (first_fields n (data_row c))) → (d : Due)
    → P (row_due d)
unfolding row_due list_row
row_due_is P whole some lines d = by (ltb (record_due d) no_record)
  where
    full : (f : Following) → P (first_fields d.left (full_row f d.case))
    full nothing = some d.left no_record
    full (list r p i) = some d.left r
    full (lists r p i j) = some d.left r
    full (data_lines p) = lines d.left d.case

    by : (t : Bool) → P (pick t (record_of (record_due d)) (first_fields d.left (full_row (following d.kind) d.case)))
    by true = whole (record_due d)
    by false = full (following d.kind)

-- the row due: a record, or the first fields of a list's line
module _ (d : Due) (line : List ℕ) where
  pub row_refusal_record : record_due d < no_record → row_refusal (row_due d) line ≡ row_refusal (record_of (record_due d)) line
  unfolding row_due
  row_refusal_record h = simp (lt-ltb _ _ h)

  row_refusal_some : no_record ≤ record_due d → row_refusal (row_due d) line ≡ fields_refusal (taken (first_fields d.left (list_row d)) line).fields line
  unfolding row_due
  row_refusal_some h = simp (le-ltb _ _ h) (row_refusal_none _ line (list_row_none d))

  -- a list of numbers in lines of record k has no padding, 58's data lines may have it
  pub row_refusal_list : no_record ≤ record_due d → (k : ℕ) → list_row d ≡ record_of k → row_refusal (row_due d) line ≡ fields_refusal (take d.left (record_of k).fields) line
  row_refusal_list h k e = row_refusal_some h ∙ rw (e, taken_first d.left k line) refl

  pub row_refusal_data : no_record ≤ record_due d → (c : ℕ) → list_row d ≡ data_row c
      → row_refusal (row_due d) line ≡ fields_refusal (taken (first_fields d.left (data_row c)) line).fields line
  row_refusal_data h c e = row_refusal_some h ∙ rw e refl

-- what a test of the table says of the kinds that the code does not name
module _ (test : ℕ → Bool) (k : ℕ) (a : k ≡ kind58 → ⊥) (b : k ≡ kind82 → ⊥) (c : k ≡ kind1815 → ⊥) where
  abbrev named : ℕ → Bool
  named i = test i || (eqb i kind58 || (eqb i kind82 || eqb i kind1815))

  others : all_are named true 0 untyped ≡ true → k < untyped → test k ≡ true
  others all h = by (test k) (in_range named true 0 untyped k all (omega arith) h)
    where
      by : (t : Bool) → t || (eqb k kind58 || (eqb k kind82 || eqb k kind1815)) ≡ true → t ≡ true
      by true h = refl
      by false h = rw (ne_eqb k kind58 a, ne_eqb k kind82 b, ne_eqb k kind1815 c) at h

-- nothing follows their records
abbrev is_nothing : Following → Bool
is_nothing nothing = true
is_nothing (list r p i) = false
is_nothing (lists r p i j) = false
is_nothing (data_lines p) = false

is_nothing_lem : (f : Following) → is_nothing f ≡ true → f ≡ nothing
is_nothing_lem nothing t = refl
is_nothing_lem (list r p i) t = false_not_true t
is_nothing_lem (lists r p i j) t = false_not_true t
is_nothing_lem (data_lines p) t = false_not_true t

pub following_none : (k : ℕ) → (k ≡ kind58 → ⊥) → (k ≡ kind82 → ⊥) → (k ≡ kind1815 → ⊥) → following k ≡ nothing
unfolding following typed_sets
following_none k a b c =
    ⊎_elim (λ h. is_nothing_lem (following k) (others (λ (i : ℕ). is_nothing (following i)) k a b c refl h)) (λ h. following_past k h) (below_or_not k untyped)

-- a full line of what follows the records, by the kind of set
module _ (d : Due) where
  pub list_row_58 : d.kind ≡ kind58 → list_row d ≡ data_row d.case
  unfolding list_row following typed_sets
  list_row_58 k = rw k refl

  pub list_row_82 : d.kind ≡ kind82 → list_row d ≡ record_of trace_entries
  unfolding list_row following typed_sets
  list_row_82 k = rw k refl

  pub list_row_1815 : d.kind ≡ kind1815 → list_row d ≡ record_of order_lists
  unfolding list_row following typed_sets
  list_row_1815 k = rw k refl

  pub list_row_other : (d.kind ≡ kind58 → ⊥) → (d.kind ≡ kind82 → ⊥) → (d.kind ≡ kind1815 → ⊥) → list_row d ≡ record_of no_record
  unfolding list_row
  list_row_other a b c = rw (following_none d.kind a b c) refl

-- and none of their records counts
pub uncounted : (k : ℕ) → (k ≡ kind58 → ⊥) → (k ≡ kind82 → ⊥) → (k ≡ kind1815 → ⊥) → count_place (following k) ≡ no_record
unfolding following typed_sets
uncounted k a b c =
    ⊎_elim
    (λ h. eqb-true _ no_record (others (λ (i : ℕ). eqb (count_place (following i)) no_record) k a b c refl h))
    (λ h. ap count_place (following_past k h))
    (below_or_not k untyped)

-- the code's accounts of the records that count: 58's line 7, 82's line 1 and 1815's record 24
module _ (d : Due) (line : List ℕ) where
  pub after_record_data : d.kind ≡ kind58 → d.at ≡ line_seven → due kind58 before_axes (case_in line) (stored_in line) 0 ≡ after_record d (items_due d line)
  unfolding after_record following typed_sets row_due record_due sequence
  after_record_data k a = let e = declares_items line in rw (k, a, e.case, e.stored) refl

  pub after_record_trace : d.kind ≡ kind82 → d.at ≡ 0 → due kind82 1 0 (number_in 10 20 line) 0 ≡ after_record d (items_due d line)
  unfolding after_record following typed_sets row_due record_due sequence record_of records items_of number_in natural_at
  after_record_trace k a = rw (k, a) refl

  pub after_record_orders : d.kind ≡ kind1815 → d.at ≡ 23
      → settled (due kind1815 most_records 0 (number_in 0 12 line) (number_in 12 24 line)) ≡ after_record d (items_due d line)
  unfolding after_record following typed_sets row_due record_due sequence record_of records items_of number_in natural_at
  after_record_orders k a = rw (k, a) refl

-- any other record only moves the place
pub after_record_next : (d : Due) (is : List Item) (p : ℕ) → count_place (following d.kind) ≡ p → (d.at ≡ p → ⊥) → next d ≡ after_record d is
unfolding after_record
after_record_next d is p e n = rw (e, ne_eqb d.at p n) refl

-- a 58 after one of its records
pub after_58 : (d : Due) (line : List ℕ) → d.kind ≡ kind58 → record_due d < no_record
    → after d line ≡ pick (eqb d.at line_seven) (due kind58 before_axes (case_in line) (stored_in line) 0) (next d)
unfolding after_items following typed_sets
after_58 d line k h = rw (lt-ltb (record_due d) no_record h) (go (eqb d.at line_seven) refl)
  where
    place : count_place (following d.kind) ≡ line_seven
    place = rw k refl

    go : (t : Bool) → eqb d.at line_seven ≡ t → after_record d (items_due d line) ≡ pick t (due kind58 before_axes (case_in line) (stored_in line) 0) (next d)
    go true e = sym (after_record_data d line k (eqb-true d.at line_seven e))
    go false e = sym (after_record_next d (items_due d line) line_seven place (eqb-false d.at line_seven e))

-- of every set there is today either the delimiter may come or a line, and not both
pub continue_or_close : (d : Due) → may_continue d ≡ not (may_close d)
unfolding may_close may_continue
continue_or_close d =
    ⊎_elim
    (λ h. rw (lt-ltb (record_due d) no_record h, lt-leb no_record (record_due d) h) refl)
    (λ h. rw (le-ltb (record_due d) no_record h, le-leb no_record (record_due d) h) (some d.left))
    (below_or_not (record_due d) no_record)
  where
    some : (n : ℕ) → ltb 0 n ≡ not (eqb n 0)
    some zero = refl
    some (suc n) = rw (lt-ltb 0 (suc n) (omega arith), ne_eqb (suc n) 0 (λ e. omega arith)) refl

pub open_continues : (d : Due) → may_close d ≡ false → may_continue d ≡ true
open_continues d h = continue_or_close d ∙ ap not h
