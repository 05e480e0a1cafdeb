-- A line is refused for what is wrong with it, and for nothing else.
use Rattle.std.specs.Prelude.{◌≡◌, Bool, List, length}
use Rattle.std.proofs.Math.Path.{refl, ap}
use Rattle.std.proofs.Common.{sym, subst, ◌∙◌, ⊎_elim, arith}
use Rattle.std.proofs.Math.Bool.{true, false}
use Prim.{tt}
use Prim.Native.Nat.{ℕ, zero, suc, ◌+◌, ◌≤◌, ◌<◌}
use borrow.Author.Tests.{ltb-true, ltb-false, le-ltb}
use Rattle.std.proofs.Math.Dec.{ltb}
use Rattle.laws.specs.Choice.{pick}
use Rattle.laws.specs.ChoiceLaws.{false_not_true, below_or_not}
use Rattle.laws.specs.RangesLaws.{in_range}
use Rattle.text.specs.Blank.{all_blank}
use Rattle.line.specs.Line.{refusal, columns, line_fault, filled}
use Rattle.line.specs.LineLaws.{filled_length, line_fault_sound, line_fault_complete}
use Rattle.line.specs.declared.Refusal.{Refusal}
use Rattle.delimiter.specs.Kind.{Delimiter, NumberLine, number_line, is_delimiter, dataset_number}
use Rattle.delimiter.proofs.KindLaws.{delimiter_not_blank, is_delimiter_complete, is_delimiter_sound, dataset_number_complete, dataset_number_sound}
use Rattle.record_table.specs.Row.{Row, with_padding, first_fields, none}
use Rattle.record_table.specs.Records.{records, record_of, data_row, no_record}
use Rattle.record_table.specs.TypedSets.{typed_sets, following, untyped}
use Rattle.record_table.proofs.TypedSetsLaws.{following_past}
use Rattle.record_table.specs.PaddingLaws.{record_of_unpadded, whole_row}
use Rattle.record.specs.Check.{condition_fault, row_refusal}
use Rattle.walk.specs.Due.{record_due, full_row, list_row, may_close, may_continue, row_due, after}
use Rattle.walk.specs.Step.{state, unless, opened, outside_step, number_step, plain_step, typed_step, place_step, step_of}
use Rattle.walk.specs.StepLaws.{unless_here}
use Rattle.walk.specs.declared.Due.{Due}
use Rattle.walk.specs.declared.Place.{Place}
use Rattle.walk.specs.declared.Place.TheVariants.{Outside, Number, Plain, Typed}
use Rattle.walk.specs.declared.State.{State}
use Rattle.std.specs.Prelude.{Ok, Err}
use Rattle.judge.specs.Judge.{line_outcome, line_step}
use Rattle.judge.specs.Refusal.{Refusing}
use Rattle.judge.specs.RefusalLaws.{no_fault}
use Rattle.record_laws.specs.FieldFaultLaws.{not_blank, blank_not}
use Rattle.record_laws.specs.Fault.{RowFault, AllPass}
use Rattle.record_laws.specs.BreaksLaws.{is_none, is_none_lem, Asked, asked, asked_nothing}
use Rattle.record_laws.specs.FaultLaws.{row_refusal_fault, row_refusal_only}
use Rattle.line_laws.specs.FaultLaws.{line_fault_fault, line_fault_only, line_some}
use Rattle.walk_laws.specs.Fault.{PlaceFault, outside, many, number, early, late, row, Fault, own, place}

-- what the test takes for no delimiter is none
no_delimiter : (line : List ℕ) → is_delimiter line ≡ false → Delimiter line → ⊥
no_delimiter line e d = false_not_true (sym e ∙ is_delimiter_complete d)

not_delimiter : (line : List ℕ) → (Delimiter line → ⊥) → is_delimiter line ≡ false
not_delimiter line n = by (is_delimiter line) refl
  where
    by : (t : Bool) → is_delimiter line ≡ t → is_delimiter line ≡ false
    by true e = absurd (n (is_delimiter_sound line e))
    by false e = e

-- a number line has a number above 0
number_some : {n : ℕ} {line : List ℕ} → NumberLine n line → 1 ≤ n
number_some (number_line f b l s some most r) = some

-- The row due: what it asks of its fields together is looked at as that of a record, or it asks nothing.

list_free : (d : Due) → (list_row d).condition ≡ none
unfolding list_row following typed_sets record_of records data_row
list_free d =
    is_none_lem _ (⊎_elim
    (λ h. in_range (λ (k : ℕ). is_none (full_row (following k) d.case).condition) true 0 untyped d.kind refl (omega arith) h)
    (λ h. rw (following_past d.kind h) refl)
    (below_or_not d.kind untyped))

row_due_either : (P : Row → Type 0) (d : Due) → P (record_of (record_due d)) → P (first_fields d.left (list_row d)) → P (row_due d)
unfolding row_due
row_due_either P d p q = by (ltb (record_due d) no_record)
  where
    by : (t : Bool) → P (pick t (record_of (record_due d)) (first_fields d.left (list_row d)))
    by true = p
    by false = q

abbrev AskedOf : List ℕ → Row → Type 0
AskedOf line r = AllPass line r.fields → Asked r line (condition_fault r line)

asked_due : (d : Due) (line : List ℕ) → AskedOf line (row_due d)
asked_due d line =
    row_due_either (AskedOf line) d
    (asked line (record_due d)) (λ p. asked_nothing line (first_fields d.left (list_row d)) (list_free d))

-- the same with its padding
asked_padded : (d : Due) (line : List ℕ) → AskedOf line (with_padding (row_due d))
asked_padded d line =
    row_due_either (λ (r : Row). AskedOf line (with_padding r)) d
    (subst (AskedOf line) (sym (whole_row (record_of (record_due d)) (record_of_unpadded (record_due d)))) (asked line (record_due d)))
    (λ p. asked_nothing line (with_padding (first_fields d.left (list_row d))) (list_free d))

module _ (line : List ℕ) (eighty : length line ≡ 80) where
  -- by the row due
  due_fault : (d : Due) → 0 < (row_refusal (row_due d) line).number → RowFault (row_due d) line (row_refusal (row_due d) line)
  due_fault d p = row_refusal_fault (row_due d) line (omega arith) (asked_due d line) (asked_padded d line) p

  due_only : (d : Due) {f : Refusal} → RowFault (row_due d) line f → (row_refusal (row_due d) line ≡ f) × (0 < f.number)
  due_only d w = row_refusal_only (row_due d) line (omega arith) (asked_due d line) (asked_padded d line) w

  -- The step of a line: what it is refused for is wrong with it.

  outside_fault : (sets : ℕ) → Refusing (PlaceFault sets line Outside) (outside_step sets line)
  unfolding outside_step
  outside_fault sets = by (all_blank line) (is_delimiter line) (ltb sets 4096) refl refl refl
    where
      by : (b d m : Bool) → all_blank line ≡ b → is_delimiter line ≡ d → ltb sets 4096 ≡ m
          → Refusing (PlaceFault sets line Outside) (pick b (Ok (state Outside sets)) (pick d (pick m (Ok (state Number (sets + 1))) (Err (refusal 15 1))) (Err (refusal 5 1))))
      by true d m e f g = tt
      by false true true e f g = tt
      by false true false e f g = many (is_delimiter_sound line f) (ltb-false sets 4096 g)
      by false false m e f g = outside (not_blank line e) (no_delimiter line f)

  number_fault : (sets : ℕ) → Refusing (PlaceFault sets line Number) (number_step sets line)
  unfolding number_step
  number_fault sets = by (ltb 0 (dataset_number line)) refl
    where
      by : (t : Bool) → ltb 0 (dataset_number line) ≡ t
          → Refusing (PlaceFault sets line Number) (pick t (Ok (state (opened (dataset_number line)) sets)) (Err (refusal 6 1)))
      by true e = tt
      by false e = number (λ n w. omega (arith, ltb-false 0 (dataset_number line) e, dataset_number_complete w, number_some w))

  row_step : (d : Due) (sets n c : ℕ) (s : State) → (Delimiter line → ⊥) → may_continue d ≡ true → (0 < n → RowFault (row_due d) line (refusal n c))
      → Refusing (PlaceFault sets line (Typed d)) (unless (refusal n c) s)
  row_step d sets zero c s n m w = tt
  row_step d sets (suc k) c s n m w = row n m (w (omega arith))

  typed_fault : (d : Due) (sets : ℕ) → Refusing (PlaceFault sets line (Typed d)) (typed_step d sets line)
  unfolding typed_step
  typed_fault d sets = by (is_delimiter line) (may_close d) (may_continue d) refl refl refl
    where
      by : (t c m : Bool) → is_delimiter line ≡ t → may_close d ≡ c → may_continue d ≡ m
          → Refusing (PlaceFault sets line (Typed d))
          (pick t (pick c (Ok (state Outside sets)) (Err (refusal 7 1))) (pick m (unless (row_refusal (row_due d) line) (state (Typed (after d line)) sets)) (Err (refusal 8 1))))
      by true true m e f g = tt
      by true false m e f g = early (is_delimiter_sound line e) f
      by false c true e f g =
          row_step d sets (row_refusal (row_due d) line).number (row_refusal (row_due d) line).column _ (no_delimiter line e) g (due_fault d)
      by false c false e f g = late (no_delimiter line e) g

  plain_step_lem : (sets : ℕ) → Refusing (PlaceFault sets line Plain) (plain_step sets line)
  unfolding plain_step
  plain_step_lem sets = by (is_delimiter line)
    where
      by : (t : Bool) → Refusing (PlaceFault sets line Plain) (pick t (Ok (state Outside sets)) (Ok (state Plain sets)))
      by true = tt
      by false = tt

  place_fault : (p : Place) (sets : ℕ) → Refusing (PlaceFault sets line p) (place_step p sets line)
  place_fault Outside sets = outside_fault sets
  place_fault Number sets = number_fault sets
  place_fault Plain sets = plain_step_lem sets
  place_fault (Typed d) sets = typed_fault d sets

  pub step_of_fault : (s : State) (f : Refusal) → step_of s line ≡ Err f → PlaceFault s.sets line s.place f
  unfolding step_of
  step_of_fault s f e = rw e at (place_fault s.place s.sets)

  -- and a line with something wrong is refused for it
  not_number : ((n : ℕ) → NumberLine n line → ⊥) → ltb 0 (dataset_number line) ≡ false
  not_number n = by (ltb 0 (dataset_number line)) refl
    where
      by : (t : Bool) → ltb 0 (dataset_number line) ≡ t → ltb 0 (dataset_number line) ≡ false
      by true e = absurd (n (dataset_number line) (dataset_number_sound line (dataset_number line) (omega arith) refl (ltb-true 0 (dataset_number line) e)))
      by false e = e

  pub step_of_only : (s : State) {p : Place} {f : Refusal} → p ≡ s.place → PlaceFault s.sets line p f → step_of s line ≡ Err f
  unfolding step_of outside_step number_step typed_step
  step_of_only s e (outside b d) = rw (← e, blank_not line b, not_delimiter line d) refl
  step_of_only s e (many d h) = rw (← e, delimiter_not_blank line d, is_delimiter_complete d, le-ltb s.sets 4096 h) refl
  step_of_only s e (number n) = rw (← e, not_number n) refl
  step_of_only s e (early d m) = rw (← e, is_delimiter_complete d, m) refl
  step_of_only s e (late n m) = rw (← e, not_delimiter line n, m) refl
  step_of_only s e (row {d} {f} n m w) =
      let r = due_only d w in
      rw (← e, not_delimiter line n, m, r.0) (unless_here f _ r.1)

-- A line of a file, by the bytes before its LF.

module _ (s : State) (l : List ℕ) where
  -- a refusal by itself stands before that of its place
  outcome_own : (n c : ℕ) (cs : List ℕ) → 0 < n → line_outcome s (refusal n c) cs ≡ Err (refusal n c)
  outcome_own zero c cs h = absurd (omega arith)
  outcome_own (suc n) c cs h = refl

  -- SOUND: what a line is refused for is wrong with it, in the column that the refusal names
  pub refused_fault : (f : Refusal) → line_step s l ≡ Err f → Fault s l f
  unfolding line_step
  refused_fault f e = by (line_fault true (columns true l)).number (line_fault true (columns true l)).column refl e
    where
      by : (n c : ℕ) → line_fault true (columns true l) ≡ refusal n c → line_outcome s (refusal n c) (columns true l) ≡ Err f → Fault s l f
      by zero c q e =
          let t = line_fault_sound true (columns true l) (no_fault (columns true l) (ap (λ (r : Refusal). r.number) q)) in
          place t.2 t.1 (step_of_fault (filled (columns true l)) (filled_length (columns true l)) s f e)
      by (suc n) c q e =
          let same : refusal (suc n) c ≡ f = cc in
          own (rw (q ∙ same) at (line_fault_fault true (columns true l) (omega (arith, ap (λ (r : Refusal). r.number) q))))

  -- COMPLETE: a line with something wrong is refused for it, in that column; so nothing else is wrong first
  pub fault_refused : {f : Refusal} → Fault s l f → line_step s l ≡ Err f
  unfolding line_step
  fault_refused {f} (own w) = rw (line_fault_only w) (outcome_own f.number f.column (columns true l) (line_some w))
  fault_refused (place a h w) = rw (line_fault_complete true (columns true l) refl h a) (step_of_only (filled (columns true l)) (filled_length (columns true l)) s refl w)
