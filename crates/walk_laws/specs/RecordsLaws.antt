-- The records of a typed set, a line at a time, for any set that is sound (TypedSetsLaws tests all of the table at once).
use Rattle.std.specs.Prelude.{◌≡◌, Bool, true, false, List, [], ◌∷◌, ◌++◌, map, ℕ, suc, ◌+◌, ◌*◌, ◌<◌, ◌≤◌, leb, eqb, length, get_or, drop}
use Rattle.std.proofs.Math.Path.{refl}
use Rattle.std.proofs.Common.{sym, ◌∙◌, ap, append-nil, ⊎_elim, arith, add-zero, add-one, drop-cons, get_or-drop, drop-drop}
use borrow.Author.Tests.{eqb-true, eqb-false, eq-eqb, lt-ltb, le-ltb, le-leb, lt-leb, ltb-true}
use Rattle.std.proofs.lemmas.List.{length-map}
use Rattle.std.proofs.Math.ListN.{get_or-eq_default}
use Rattle.std.proofs.Math.Seq.{drop-length}
use Rattle.laws.specs.Choice.{pick}
use Rattle.laws.specs.ChoiceLaws.{below_or_not}
use Rattle.layout.specs.Layout.{numbers_of, fields_of}
use Rattle.layout.specs.LayoutLaws.{fields_of_some}
use Rattle.field.specs.Item.{Item}
use Rattle.record_table.specs.Records.{no_record, record_of, data_row}
use Rattle.record_table.specs.TypedSets.{Following, nothing, list, lists, data_lines, untyped, sequence, following}
use Rattle.record_table.proofs.TypedSetsLaws.{is_counted, is_counted_lem, typed_sound}
use Rattle.record.specs.Declares.{natural_at, case_by, count_by, stored_by}
use Rattle.theory.specs.Sets.{number_at}
use Rattle.theory.specs.Due.{rows_after, lists_of}
use Rattle.walk.specs.Due.{due, opening, record_due, list_row, may_close, row_due, settled, count_place, counted, next, after_record, after_items}
use Rattle.walk.specs.DueLaws.{after_record_next}
use Rattle.walk.specs.declared.Due.{Due}
use Rattle.walk_laws.specs.Owed.{DueAt, reached, rows_left, Listing, Owes, Next}
use Rattle.walk_laws.specs.LinesForLaws.{list_rows_none}
use Rattle.walk_laws.specs.ListLaws.{settled_cases, rows_left_settled, listing_settled}

-- settling a state keeps its kind and its place, and moving the place does not meet it
settled_stands : (d : Due) → DueAt d.kind d.at (settled d)
settled_stands d = settled_cases (DueAt d.kind d.at) d (λ z. refl) (λ n. refl)

settled_next : (k a c l s : ℕ) → next (settled (due k a c l s)) ≡ settled (next (due k a c l s))
unfolding settled
settled_next k a c l s = by (eqb l 0)
  where
    by : (t : Bool) → next (pick t (due k a c s 0) (due k a c l s)) ≡ pick t (due k (a + 1) c s 0) (due k (a + 1) c l s)
    by true = refl
    by false = refl

-- nor does counting
counted_stands : (f : Following) (is : List Item) (d : Due) → DueAt d.kind d.at (counted f is d)
counted_stands nothing is d = refl
counted_stands (list r p i) is d = refl
counted_stands (lists r p i j) is d = settled_stands (due d.kind d.at 0 (natural_at is i) (natural_at is j))
counted_stands (data_lines p) is d = refl

counted_next : (f : Following) (is : List Item) (k a : ℕ) → next (counted f is (due k a 0 0 0)) ≡ counted f is (next (due k a 0 0 0))
counted_next nothing is k a = refl
counted_next (list r p i) is k a = refl
counted_next (lists r p i j) is k a = settled_next k a 0 (natural_at is i) (natural_at is j)
counted_next (data_lines p) is k a = refl

-- 58's data lines have fields where it has numbers
data_row_wide : (c n : ℕ) → 0 < n * numbers_of c → 0 < length (data_row c).fields
unfolding data_row numbers_of fields_of
data_row_wide c n p =
    ⊎_elim
    (λ (h : c < 8). rw length-map (fields_of_some c h))
    (λ (h : 8 ≤ c). let z : 0 < n * 0 = rw (le-ltb c 8 h) at p in absurd (omega arith))
    (below_or_not c 8)

stored_by_wide : (is : List Item) → 0 < stored_by is → 0 < length (data_row (case_by is)).fields
unfolding stored_by
stored_by_wide is p = data_row_wide (case_by is) (count_by is) p

-- the numbers counted take the rows that document 01 gives
counted_rows : (f : Following) (k a : ℕ) (ls : List (List Item)) → following k ≡ f
    → rows_left (counted f (get_or ls (count_place f) []) (due k a 0 0 0)) ≡ rows_after f ls
unfolding rows_left list_row number_at
counted_rows nothing k a ls e = simp (list_rows_none, append-nil)
counted_rows (list r p i) k a ls e = rw e (simp (list_rows_none, append-nil))
counted_rows (lists r p i j) k a ls e =
    let d : Due = due k a 0 (natural_at (get_or ls p []) i) (natural_at (get_or ls p []) j) in
    rows_left_settled d ∙ rw e refl
counted_rows (data_lines p) k a ls e = rw e (simp (list_rows_none, append-nil))

-- and their lines are due once the records have come
counted_listing : (f : Following) (k a n : ℕ) (is : List Item) → following k ≡ f → get_or (sequence k) a no_record ≡ no_record → is_counted n f ≡ true
    → Listing (counted f is (due k a 0 0 0))
unfolding record_due list_row
counted_listing nothing k a n is e p t = record { past = p; none = λ z. refl; wide = λ l. absurd (omega arith) }
counted_listing (list r q i) k a n is e p t = record { past = p; none = λ z. refl; wide = λ l. rw e (is_counted_lem n r q t).some }
counted_listing (lists r q i j) k a n is e p t = listing_settled (due k a 0 (natural_at is i) (natural_at is j)) p (rw e (is_counted_lem n r q t).some)
counted_listing (data_lines q) k a n is e p t = record { past = p; none = λ z. refl; wide = λ l. rw e (stored_by_wide is l) }

pick_same : {A : Type 0} (t : Bool) (x : A) → pick t x x ≡ x
pick_same true x = refl
pick_same false x = refl

module _ (k : ℕ) (ls : List (List Item)) where
  abbrev place : ℕ
  place = count_place (following k)

  abbrev counting : List Item
  counting = get_or ls (count_place (following k)) []

  -- the state up to the record that counts, and past it
  reached_early : (a : ℕ) → a ≤ place → reached k ls a ≡ due k a 0 0 0
  unfolding reached
  reached_early a h = rw (le-leb a place h) refl

  reached_late : (a : ℕ) → place < a → reached k ls a ≡ counted (following k) counting (due k a 0 0 0)
  unfolding reached
  reached_late a h = rw (lt-leb a place h) refl

  -- it stands at its place
  reached_stands : (a : ℕ) → DueAt k a (reached k ls a)
  reached_stands a =
      ⊎_elim
      (λ (h : place < a). rw (reached_late a h) (counted_stands (following k) counting (due k a 0 0 0)))
      (λ (h : a ≤ place). rw (reached_early a h) refl)
      (below_or_not place a)

  reached_kind : (a : ℕ) → (reached k ls a).kind ≡ k
  reached_kind a = ap (λ (d : Due). d.kind) (reached_stands a)

  reached_at : (a : ℕ) → (reached k ls a).at ≡ a
  reached_at a = ap (λ (d : Due). d.at) (reached_stands a)

  -- a record that does not count moves the place
  moved : (a : ℕ) (is : List Item) → (a ≡ place → ⊥) → after_record (reached k ls a) is ≡ next (reached k ls a)
  moved a is n =
      sym (after_record_next (reached k ls a) is place (ap (λ (x : ℕ). count_place (following x)) (reached_kind a)) (λ e. n (sym (reached_at a) ∙ e)))

  -- the state after one more record: before the one that counts, that one, past it
  next_early : (a : ℕ) (is : List Item) → a < place → after_record (reached k ls a) is ≡ reached k ls (suc a)
  next_early a is h = moved a is (λ e. omega arith) ∙ rw (reached_early a (omega arith), reached_early (suc a) h, add-one) refl

  next_here : after_record (reached k ls place) counting ≡ reached k ls (suc place)
  unfolding after_record
  next_here = rw (reached_early place (omega arith), reached_late (suc place) (omega arith), eq-eqb place place refl, add-one) refl

  next_late : (a : ℕ) (is : List Item) → place < a → after_record (reached k ls a) is ≡ reached k ls (suc a)
  next_late a is h = moved a is (λ e. omega arith) ∙ rw (reached_late a h, reached_late (suc a) (omega arith), counted_next (following k) counting k a, add-one) refl

  reached_next : (a : ℕ) → after_record (reached k ls a) (get_or ls a []) ≡ reached k ls (suc a)
  reached_next a = ⊎_elim (next_early a (get_or ls a [])) (λ (h : place ≤ a). from h (eqb a place) refl) (below_or_not a place)
    where
      from : place ≤ a → (t : Bool) → eqb a place ≡ t → after_record (reached k ls a) (get_or ls a []) ≡ reached k ls (suc a)
      from h true e = let q : a ≡ place = eqb-true a place e in rw q next_here
      from h false e = let n : a ≡ place → ⊥ = eqb-false a place e in next_late a (get_or ls a []) (omega arith)

  -- when all have come the numbers are counted, if they are
  reached_counted : (f : Following) → following k ≡ f → is_counted (length (sequence k)) f ≡ true
      → reached k ls (length (sequence k)) ≡ counted f (get_or ls (count_place f) []) (due k (length (sequence k)) 0 0 0)
  unfolding reached
  reached_counted nothing e t = rw e (pick_same (leb (length (sequence k)) no_record) (due k (length (sequence k)) 0 0 0))
  reached_counted (list r p i) e t = rw (e, lt-leb (length (sequence k)) p (is_counted_lem _ r p t).within) refl
  reached_counted (lists r p i j) e t = rw (e, lt-leb (length (sequence k)) p (is_counted_lem _ r p t).within) refl
  reached_counted (data_lines p) e t = rw (e, lt-leb (length (sequence k)) p (ltb-true p _ t)) refl

module _ (k : ℕ) (h : k < untyped) (ls : List (List Item)) where
  -- after the records, the lists are those that document 01 gives
  reached_lists : rows_left (reached k ls (length (sequence k))) ≡ lists_of k ls
  unfolding lists_of
  reached_lists =
      rw (reached_counted k ls (following k) refl (typed_sound k h).counted) (counted_rows (following k) k (length (sequence k)) ls refl)

  -- and their lines are due
  reached_listing : Listing (reached k ls (length (sequence k)))
  reached_listing =
      let n : ℕ = length (sequence k) in
      let past : get_or (sequence k) n no_record ≡ no_record = get_or-eq_default (sequence k) no_record (omega arith) in
      rw (reached_counted k ls (following k) refl (typed_sound k h).counted)
      (counted_listing (following k) k n n (get_or ls (count_place (following k)) []) refl past (typed_sound k h).counted)

  -- so what is owed once the records have come is what document 01 gives
  lists_owed : {iss : List (List Item)} → Owes (reached k ls (length (sequence k))) iss (lists_of k ls)
  lists_owed = rw (← reached_lists) (Owes.lists reached_listing)

-- the first of what is left after a places, and the rest of it
drop_first : {A : Type 0} (ls : List A) (a : ℕ) (x d : A) (xs : List A) → drop a ls ≡ x ∷ xs → (get_or ls a d ≡ x) × (drop (suc a) ls ≡ xs)
drop_first ls a x d xs e = (sym (rw (e, add-zero) at (get_or-drop a ls 0 d)), sym (rw (e, add-one) at (drop-drop 1 a ls)))

module _ (k a : ℕ) (ls : List (List Item)) (h : k < untyped) (p : a < length (sequence k)) where
  -- the record due is the sequence's
  record_reached : record_due (reached k ls a) ≡ get_or (sequence k) a no_record
  unfolding record_due
  record_reached = rw (reached_kind k ls a, reached_at k ls a) refl

  record_below : record_due (reached k ls a) < no_record
  record_below = rw record_reached ((typed_sound k h).below a p)

  -- a set that waits for a record may not close
  pub records_open : may_close (reached k ls a) ≡ false
  unfolding may_close
  records_open = rw (lt-leb no_record (record_due (reached k ls a)) record_below) refl

  -- what is owed after this record: the next ones, or the lists
  records_after : (iss : List (List Item)) → drop (suc a) ls ≡ iss → Owes (reached k ls (suc a)) iss (map record_of (drop (suc a) (sequence k)) ++ lists_of k ls)
  records_after iss e =
      ⊎_elim
      (λ (q : suc a < length (sequence k)). Owes.records k (suc a) ls h q e)
      (λ (q : length (sequence k) ≤ suc a).
      let f : length (sequence k) ≡ suc a = omega arith in
      rw (← f, drop-length) (lists_owed k h ls))
      (below_or_not (suc a) (length (sequence k)))

  -- its row, and the state after it
  row_reached : row_due (reached k ls a) ≡ record_of (get_or (sequence k) a no_record)
  unfolding row_due
  row_reached = rw (lt-ltb (record_due (reached k ls a)) no_record record_below, record_reached) refl

  after_reached : after_items (reached k ls a) (get_or ls a []) ≡ reached k ls (suc a)
  unfolding after_items
  after_reached = rw (lt-ltb (record_due (reached k ls a)) no_record record_below) (reached_next k ls a)

  -- one record owed
  pub records_next : (iss : List (List Item)) → drop a ls ≡ iss → Next (reached k ls a) iss (map record_of (drop a (sequence k)) ++ lists_of k ls)
  records_next iss e = record {
    rest = map record_of (drop (suc a) (sequence k)) ++ lists_of k ls;
    first = rw (drop-cons (sequence k) a no_record p, row_reached) refl;
    then = λ is iss' f.
        let q : (get_or ls a [] ≡ is) × (drop (suc a) ls ≡ iss') = drop_first ls a is [] iss' (e ∙ f) in
        rw (← q.0, after_reached) (records_after iss' q.1);
  }

-- a set that opens owes its records, and the lists after them
pub records_opening : (k : ℕ) (ls : List (List Item)) → k < untyped → Owes (opening k) ls (map record_of (sequence k) ++ lists_of k ls)
records_opening k ls h = rw (reached_early k ls 0 (omega arith)) at (Owes.records k 0 ls h (typed_sound k h).some refl)
