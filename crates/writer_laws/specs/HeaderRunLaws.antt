-- A header that passes is eleven lines of a 58, none of them a delimiter; its line 7 says which case it is and how many numbers it stores.
use Rattle.std.specs.Prelude.{◌≡◌, Bool, false, List, [], ◌∷◌, ltb, eqb, length, get_or}
use Rattle.std.proofs.Math.Path.{refl, ap}
use Rattle.std.proofs.Common.{sym, ◌∙◌, mul-le-mul, mul-pos, add-zero, arith, ltb-true, ltb-false, eqb-true, lt-ltb, le-ltb, eq-eqb, ne_eqb}
use Rattle.std.proofs.Math.Logic.{⊎_elim}
use Rattle.std.proofs.Math.Bool.{true}
use Prim.Native.Nat.{ℕ, zero, suc, ◌+◌, ◌-◌, ◌*◌, ◌≤◌, ◌<◌}
use Rattle.std.proofs.lemmas.Bool.{eqb-false, lt-leb}
use Rattle.laws.specs.Choice.{pick}
use Rattle.laws.specs.ChoiceLaws.{below_or_not}
use Rattle.laws.specs.RangesLaws.{in_range}
use Rattle.laws.specs.Cut.{cut, over, judge}
use Rattle.line.specs.declared.Refusal.{Refusal}
use Rattle.line.specs.Line.{refusal, columns, line_fault, filled}
use Rattle.layout.specs.Layout.{numbers_of}
use Rattle.field.specs.Item.{Item}
use Rattle.record_table.specs.Row.{span, with_padding}
use Rattle.record_table.specs.Records.{records, record_of, no_record, data_form}
use Rattle.record_table.specs.TypedSets.{typed_sets, sequence, header_lines, before_axes, kind58, line_seven}
use Rattle.record.specs.Check.{row_refusal, items_of}
use Rattle.record.specs.Declares.{case_in, stored_in, case_by, count_by, stored_by}
use Rattle.walk.specs.declared.Due.{Due}
use Rattle.walk.specs.declared.Place.TheVariants.{Typed}
use Rattle.std.specs.Prelude.{Err}
use Rattle.walk.specs.Due.{due, record_due, may_close, row_due, opening, next, after}
use Rattle.walk.specs.DueLaws.{numbers_of_few, row_refusal_record, after_58, open_continues}
use Rattle.walk.specs.Step.{state, unless, typed_step, step_of}
use Rattle.walk.specs.StepLaws.{unless_here, unless_on}
use Rattle.judge.specs.declared.Reply.{Reply}
use Rattle.judge.specs.Judge.{at_line, line_step, Run, going, refused, run_step}
use Rattle.header.specs.Header.{Answer}
use Rattle.header.specs.HeaderLaws.{over_refused}
use Rattle.header.specs.Header.{answer, refused_at, past_fault, header_step, header_end, header_of}
use Rattle.parts.specs.Parts.{columns_in, closes}
use Rattle.rewriter.specs.Fair.{Fair, Inner, Inner.none as no_line, Inner.more as one_line}
use Rattle.rewriter.proofs.RewriterLaws.{fair_passed}
use Rattle.judge.specs.RefusalLaws.{no_fault}
use Rattle.judge.specs.JudgeLaws.{unended_some}
use Rattle.line.specs.LineLaws.{filled_length}
use Rattle.layout.specs.Columns.{total}
use Rattle.record.specs.DeclaresLaws.{declares_items}
use Rattle.record.specs.Written.{Written}
use Rattle.record_laws.specs.RowGroupLaws.{record_of_readable}
use Rattle.record_laws.specs.LineReadingLaws.{written_sound}
use Rattle.parts_laws.specs.CaseLaws.{numbers_of_some, record_case, record_counted}
use Rattle.writer_laws.specs.HeaderRun.{Says, Passed, Bounds, Stood, Taken, Met, ended, taken, stopped}

stored_bounds : (c n : ℕ) → c < 8 → 1 ≤ n → n ≤ 65536 → Bounds c (n * numbers_of c)
stored_bounds c n e l u =
    record {
      eight = e;
      some = mul-pos l (numbers_of_some c e);
      most = mul-le-mul u (numbers_of_few c);
    }

-- line 7 says both, where it passes
seventh_fits : span (with_padding (record_of data_form)).fields ≤ 80
unfolding record_of records total
seventh_fits = omega arith

seventh_bounds : (cs : List ℕ) → (row_refusal (record_of data_form) (filled cs)).number ≡ 0 → Bounds (case_in (filled cs)) (stored_in (filled cs))
unfolding stored_by
seventh_bounds cs h =
    let is : List Item = items_of (record_of data_form).fields 0 (filled cs) in
    let w : Written (record_of data_form) is (filled cs) = written_sound (filled cs) (filled_length cs) (record_of data_form) seventh_fits (record_of_readable data_form) h in
    let e = declares_items (filled cs) in
    let m = record_counted is (filled cs) w in
    rw (e.case, e.stored) (stored_bounds (case_by is) (count_by is) (record_case is (filled cs) w) m.0 m.1)

-- before the eleventh line has come a record is due
abbrev some_record : ℕ → Bool
some_record n = ltb (get_or (sequence kind58) n no_record) no_record

record_below : (n : ℕ) → n < header_lines → get_or (sequence kind58) n no_record < no_record
unfolding sequence typed_sets
record_below n h = ltb-true _ no_record (in_range some_record true 0 header_lines n refl (omega arith) (omega arith))

module _ (n : ℕ) (d : Due) (s : Stood n d) (h : n < header_lines) where
  due_record : record_due d ≡ get_or (sequence kind58) n no_record
  unfolding record_due
  due_record = rw (s.kind, s.at) refl

  due_below : record_due d < no_record
  due_below = rw due_record (record_below n h)

  pub not_closed : may_close d ≡ false
  unfolding may_close
  not_closed = rw (lt-leb no_record (record_due d) due_below) refl

  module _ (cs : List ℕ) (p : (row_refusal (row_due d) (filled cs)).number ≡ 0) where
    after_record_lem : after d (filled cs) ≡ pick (eqb n line_seven) (due kind58 before_axes (case_in (filled cs)) (stored_in (filled cs)) 0) (next d)
    after_record_lem = after_58 d (filled cs) s.kind due_below ∙ rw s.at refl

    after_seventh : n ≡ line_seven → Bounds (case_in (filled cs)) (stored_in (filled cs))
    unfolding sequence typed_sets
    after_seventh e =
        let r : record_due d ≡ data_form = due_record ∙ rw e refl in
        let q : row_refusal (row_due d) (filled cs) ≡ row_refusal (record_of data_form) (filled cs) = row_refusal_record d (filled cs) due_below ∙ ap (λ (x : ℕ). row_refusal (record_of x) (filled cs)) r in
        seventh_bounds cs (rw q at p)

    pub after_stood : Stood (n + 1) (after d (filled cs))
    after_stood = rw after_record_lem (by (eqb n line_seven) refl)
      where
        by : (t : Bool) → eqb n line_seven ≡ t → Stood (n + 1) (pick t (due kind58 before_axes (case_in (filled cs)) (stored_in (filled cs)) 0) (next d))
        by true e =
            let x : n ≡ line_seven = eqb-true n line_seven e in
            record { kind = refl; at = omega arith; second = refl; bounds = λ k. after_seventh x }
        by false e =
            record { kind = s.kind; at = omega (arith, s.at); second = s.second; bounds = λ k. s.bounds (omega (arith, eqb-false n line_seven e)) }

module _ (d : Due) (l : List ℕ) (c : may_close d ≡ false) where
  -- a line that passes by itself is judged by its place
  step_place : (line_fault true (columns true l)).number ≡ 0 → line_step (state (Typed d) 1) l ≡ typed_step d 1 (columns_in l)
  unfolding line_step step_of
  step_place h = rw h refl

  step_closing : closes l ≡ true → typed_step d 1 (columns_in l) ≡ Err (refusal 7 1)
  unfolding typed_step closes
  step_closing h = rw (h, c) refl

  step_row : closes l ≡ false → typed_step d 1 (columns_in l) ≡ unless (row_refusal (row_due d) (columns_in l)) (state (Typed (after d (columns_in l))) 1)
  unfolding typed_step closes
  step_row h = rw (h, open_continues d c) refl

  row_met : Fair l → closes l ≡ false → line_step (state (Typed d) 1) l ≡ typed_step d 1 (columns_in l) → Met d l
  row_met f o e =
      let r : Refusal = row_refusal (row_due d) (columns_in l) in
      ⊎_elim
      (λ h. stopped r (e ∙ step_row o ∙ unless_here r _ h) h)
      (λ h. taken (record { fair = f; inside = o; row = omega arith; step = e ∙ step_row o ∙ unless_on r _ h }))
      (below_or_not 0 r.number)

  place_met : Fair l → line_step (state (Typed d) 1) l ≡ typed_step d 1 (columns_in l) → Met d l
  place_met f e = by (closes l) refl
    where
      by : (t : Bool) → closes l ≡ t → Met d l
      by true o = stopped (refusal 7 1) (e ∙ step_closing o) (omega arith)
      by false o = row_met f o e

  pub line_met : Met d l
  unfolding line_step
  line_met = by (line_fault true (columns true l)).number refl
    where
      by : (n : ℕ) → (line_fault true (columns true l)).number ≡ n → Met d l
      by zero e = place_met (fair_passed l (no_fault (columns true l) e)) (step_place e)
      by (suc n) e = stopped (line_fault true (columns true l)) (rw e refl) (omega arith)

-- after a refusal no header passes
not_passed : {A : Type 0} (r : Reply) (ls : List (List ℕ)) (rest : List ℕ) → 0 < r.number
    → (header_end (over header_step (refused r) ls) rest).reply.number ≡ 0 → A
not_passed r ls rest p h =
    let z : r.number ≡ 0 = sym (ap (λ (x : Run). (header_end x rest).reply.number) (over_refused r ls)) ∙ h in
    absurd (omega arith)

past_some : (f : Refusal) → 0 < (past_fault f).number
past_some f = go f.number refl
  where
    go : (m : ℕ) → f.number ≡ m → 0 < (past_fault f).number
    go zero e = rw e (omega arith)
    go (suc m) e = rw e (omega arith)

record Ran (d : Due) (n : ℕ) (ls : List (List ℕ)) (rest : List ℕ) : Type 0 where
  due : Due
  stood : Stood header_lines due
  none_open : rest ≡ []
  lines : length ls + n ≡ header_lines
  inner : Inner ls
  seventh : n ≤ line_seven → Says (columns_in (get_or ls (line_seven - n) [])) due
  kept : before_axes ≤ n → (due.case ≡ d.case) × (due.left ≡ d.left)
  run : (m k : ℕ) → k ≡ m + length ls → over run_step (going (state (Typed d) 1) m) ls ≡ going (state (Typed due) 1) k
  ends : ended d n ls rest ≡ answer 0 0 due.case due.left

-- no line more: they are eleven, and nothing is left
run_end_lem : (d : Due) (n : ℕ) (rest : List ℕ) → Stood n d → n ≤ header_lines → (ended d n [] rest).reply.number ≡ 0 → Ran d n [] rest
unfolding over
run_end_lem d n (b ∷ bs) s l h = absurd (omega (arith, unended_some (b ∷ bs)))
run_end_lem d n [] s l h = by (ltb n header_lines) refl h
  where
    by : (t : Bool) → ltb n header_lines ≡ t → (pick t (refused_at n (refusal 7 1)) (answer 0 0 d.case d.left)).reply.number ≡ 0 → Ran d n [] []
    by true e k = absurd (omega arith)
    by false e k =
        let x : n ≡ header_lines = omega (arith, ltb-false n header_lines e) in
        record {
          due = d;
          stood = rw x at s;
          none_open = refl;
          lines = omega arith;
          inner = no_line;
          seventh = λ k. absurd (omega arith);
          kept = λ k. (refl, refl);
          run = λ m k q. rw q (rw add-zero refl);
          ends = rw e refl;
        }

-- one line more
module _ (d : Due) (n : ℕ) (l : List ℕ) (ls : List (List ℕ)) (rest : List ℕ) (s : Stood n d) where
  abbrev later : Due
  later = after d (columns_in l)

  -- line 7 says the case and how many numbers are stored; no later line does
  seventh_says : n < header_lines → Taken d l → n ≡ line_seven → Says (columns_in l) later
  seventh_says h t e =
      let x : later ≡ due kind58 before_axes (case_in (columns_in l)) (stored_in (columns_in l)) 0 = after_record_lem n d s h (columns true l) t.row ∙ rw (eq-eqb n line_seven e) refl in
      rw x (record { case = refl; left = refl })

  later_kept : n < header_lines → Taken d l → (n ≡ line_seven → ⊥) → (later.case ≡ d.case) × (later.left ≡ d.left)
  later_kept h t e =
      let x : later ≡ next d = after_record_lem n d s h (columns true l) t.row ∙ rw (ne_eqb n line_seven e) refl in
      rw x (refl, refl)

  line_says : n < header_lines → Taken d l → (r : Ran later (n + 1) ls rest) → n ≤ line_seven → Says (columns_in (get_or (l ∷ ls) (line_seven - n) [])) r.due
  line_says h t r k = ⊎_elim
      (λ a. let z : line_seven - n ≡ suc (line_seven - (n + 1)) = omega arith in rw z (r.seventh (omega arith)))
      (λ a.
      let z : line_seven - n ≡ 0 = omega arith in
      let y = seventh_says h t (omega arith) in
      let q = r.kept (omega arith) in
      rw z (record { case = q.0 ∙ y.case; left = q.1 ∙ y.left }))
      (below_or_not n line_seven)

  run_taken : n < header_lines → Taken d l → Ran later (n + 1) ls rest → Ran d n (l ∷ ls) rest
  unfolding over
  run_taken h t r =
      record {
        due = r.due;
        stood = r.stood;
        none_open = r.none_open;
        lines = omega (arith, r.lines);
        inner = one_line t.fair t.inside r.inner;
        seventh = line_says h t r;
        kept = λ k. let q = r.kept (omega arith) in let o = later_kept h t (λ e. omega arith) in (q.0 ∙ o.0, q.1 ∙ o.1);
        run = λ m k q. rw t.step (r.run (m + 1) k (omega arith));
        ends = rw (lt-ltb n header_lines h, t.step) r.ends;
      }

  run_next : (ended d n (l ∷ ls) rest).reply.number ≡ 0 → (Stood (n + 1) later → n + 1 ≤ header_lines → (ended later (n + 1) ls rest).reply.number ≡ 0 → Ran later (n + 1) ls rest)
      → Ran d n (l ∷ ls) rest
  unfolding over
  run_next k ih = ⊎_elim early late (below_or_not n header_lines)
    where
      late : header_lines ≤ n → Ran d n (l ∷ ls) rest
      late h =
          let f : Refusal = line_fault true (columns true l) in
          not_passed (at_line n (past_fault f)) ls rest (past_some f) (rw (le-ltb n header_lines h) at k)

      met : n < header_lines → Met d l → Ran d n (l ∷ ls) rest
      met h (taken t) = run_taken h t (ih (after_stood n d s h (columns true l) t.row) (omega arith) (rw (lt-ltb n header_lines h, t.step) at k))
      met h (stopped f e p) = not_passed (at_line n f) ls rest p (rw (lt-ltb n header_lines h, e) at k)

      early : n < header_lines → Ran d n (l ∷ ls) rest
      early h = met h (line_met d l (not_closed n d s h))

header_ran : (ls : List (List ℕ)) (d : Due) (n : ℕ) (rest : List ℕ) → Stood n d → n ≤ header_lines → (ended d n ls rest).reply.number ≡ 0 → Ran d n ls rest
header_ran [] d n rest s b h = run_end_lem d n rest s b h
header_ran (l ∷ ls) d n rest s b h =
    run_next d n l ls rest s h (λ t c k. header_ran ls (after d (columns_in l)) (n + 1) rest t c k)

-- a 58 that opens
pub opened_stood : Stood 0 (opening kind58)
opened_stood = record { kind = refl; at = refl; second = refl; bounds = λ h. absurd (omega arith) }

pub header_passed : (header : List ℕ) → (header_of header).reply.number ≡ 0 → Passed header
unfolding header_of judge
header_passed header h = passes (header_ran (cut header).lines (opening kind58) 0 (cut header).rest opened_stood (omega arith) h)
  where
    passes : Ran (opening kind58) 0 (cut header).lines (cut header).rest → Passed header
    passes r =
        let b : Bounds r.due.case r.due.left = r.stood.bounds (omega arith) in
        let c : r.due.case ≡ (header_of header).case = sym (ap (λ (x : Answer). x.case) r.ends) in
        let m : r.due.left ≡ (header_of header).stored = sym (ap (λ (x : Answer). x.stored) r.ends) in
        record {
          due = r.due;
          rest = r.none_open;
          lines = omega (arith, r.lines);
          inner = r.inner;
          run = λ n. r.run n (n + header_lines) (omega (arith, r.lines));
          kind = r.stood.kind;
          at = r.stood.at;
          second = r.stood.second;
          case = c;
          left = m;
          seventh = r.seventh (omega arith);
          case_below = rw (← c) b.eight;
          stored_some = rw (← m) b.some;
          stored_most = rw (← m) b.most;
        }
