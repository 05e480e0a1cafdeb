-- A file judged while it arrives: what the end accepts, and that a refused call leaves the record lent as it was.
use Rattle.std.specs.Prelude.{◌≡◌, refl, Bool, ◌&&◌, ◌||◌, List, [], ◌∷◌, ◌⊎◌, ℕ, ◌+◌, ◌<◌, ◌≤◌, leb, ltb, eqb, length, set, Err}
use Rattle.std.proofs.Common.{sym, ◌∙◌, inl, inr, ⊎_elim, arith, lt-ltb, le-ltb, ltb-false}
use Rattle.std.proofs.Math.Path.{ap}
use Rattle.std.proofs.Math.Bool.{true, false}
use Rattle.laws.specs.Choice.{pick}
use Rattle.laws.specs.ChoiceLaws.{below_or_not, false_not_true}
use Rattle.laws.specs.Cut.{cut, over}
use Rattle.line.specs.Line.{refusal}
use Rattle.walk.specs.declared.Place.{Place}
use Rattle.walk.specs.declared.Place.TheVariants.{Outside, Number, Plain, Typed}
use Rattle.walk.specs.declared.State.{State}
use Rattle.std.specs.Prelude.{Result, Ok}
use Rattle.line.specs.declared.Refusal.{Refusal}
use Rattle.walk.specs.Step.{start}
use Rattle.judge.specs.declared.Reply.{Reply}
use Rattle.judge.specs.Judge.{judged, reply, at_line, Run, going, refused, line_step, on_outcome, run_step, at_end}
use Rattle.judge.specs.RefusalLaws.{line_number}
use Rattle.stream.specs.declared.Stream.{Stream}
use Rattle.stream.specs.Stream.{OpenLine, columns_of, fault_of, open_fault, is_strange, is_past, open_in, seen, answer_of, so_far, paper, open_end, end_reply, closed, fresh_record}
use Rattle.stream.specs.StreamLaws.{number_known, seen_past, seen_going, seen_refused, fresh_says}
use Rattle.stream_c.specs.Lent.{is_short, stream_of, numbers_after, line_after, start_reply, start_numbers, start_line, end_of, end_numbers, Untouched, Burst, same}
use Rattle.stream_laws.specs.Streaming.{finished, run_answer, burst_answer, joined, Bursts}
use Rattle.stream_laws.proofs.StreamingLaws as StreamingLaws
use Rattle.host.specs.Packed.{word, number_in}
use Rattle.host.specs.PackedLaws.{word_number}
use Rattle.walk_laws.specs.FaultLaws.{refused_fault}
use Rattle.walk_laws.specs.FaultColumnLaws.{fault_column}
use Rattle.theory.specs.Sets.{Set}
use Rattle.theory.specs.Proper.{Proper}
use Rattle.theorems.specs.Table.{OfLine, BurstInTable}
use Rattle.judge_laws.specs.JudgeLaws.{accepted_proper, proper_accepted}
use Rattle.theorems.proofs.TableCallsLaws.{of_either}

-- what is said of a fresh record brought up to date by bursts
module _ {r : Stream} {bursts : List (List ℕ)} (k : Bursts fresh_record bursts r) where
  pub any_cut : (end_reply (seen r) ≡ judged (joined bursts)) × ((end_reply (seen (closed r)) ≡ judged (joined bursts)) × (closed (closed r) ≡ closed r))
  any_cut =
      (StreamingLaws.any_cut fresh_says.1 fresh_says.0 k, (StreamingLaws.any_cut_again fresh_says.1 fresh_says.0 k, StreamingLaws.closed_again r))

  pub any_cut_answer : answer_of r.ended (seen r) ≡ burst_answer (joined bursts)
  any_cut_answer = StreamingLaws.any_cut_answer fresh_says.1 fresh_says.0 k

  pub arrived_proper : (n : ℕ) → end_reply (seen r) ≡ reply 0 n → (sets : List Set) × Proper sets (joined bursts)
  arrived_proper n g = accepted_proper (joined bursts) n (sym any_cut.0 ∙ g)

  pub proper_arrived : {sets : List Set} → Proper sets (joined bursts) → end_reply (seen r) ≡ reply 0 (length (cut (joined bursts)).lines)
  proper_arrived p = any_cut.0 ∙ proper_accepted p

-- past the limit
pub burst_too_long : (bytes : List ℕ) → 16777216 < length bytes → burst_answer bytes ≡ Err (reply 1 0)
burst_too_long bytes h = rw (lt-ltb 16777216 (length bytes) h) refl

-- finished lines, judged: how many there are, or the refusal of one
abbrev Ran : ℕ → Run → Type 0
Ran n (going s m) = m ≡ n
Ran n (refused r) = OfLine n r

ran_outcome : (s : State) (l : List ℕ) (n : ℕ) (o : Result State Refusal) → line_step s l ≡ o → Ran (n + 1) (on_outcome n o)
ran_outcome s l n (Ok t) e = refl
ran_outcome s l n (Err f) e =
    let c = fault_column (refused_fault s l f e) in
    record { number = line_number s l f e; from = omega arith; last = omega arith; column = c.from; eighty = c.eighty }

ran_step : (r : Run) (l : List ℕ) (n : ℕ) → Ran n r → Ran (n + 1) (run_step r l)
ran_step (going s m) l n h = rw (← h) (ran_outcome s l m (line_step s l) refl)
ran_step (refused r) l n h = record { number = h.number; from = h.from; last = omega (arith, h.last); column = h.column; eighty = h.eighty }

ran_over : (ls : List (List ℕ)) (r : Run) (n : ℕ) → Ran n r → Ran (n + length ls) (over run_step r ls)
unfolding over
ran_over [] r n h = let e : n + 0 ≡ n = omega arith in rw e h
ran_over (l ∷ ls) r n h =
    let e : n + length (l ∷ ls) ≡ n + 1 + length ls = omega arith in
    rw e (ran_over ls (run_step r l) (n + 1) (ran_step r l n h))

pub burst_table : (bytes : List ℕ) → BurstInTable (length (cut bytes).lines) (paper (burst_answer bytes))
unfolding finished
burst_table bytes =
    let all : 0 + length (cut bytes).lines ≡ length (cut bytes).lines = omega arith in
    by (ltb 16777216 (length bytes)) (finished bytes) (rw all at (ran_over (cut bytes).lines (going start 0) 0 refl))
  where
    by : (t : Bool) (r : Run) → Ran (length (cut bytes).lines) r → BurstInTable (length (cut bytes).lines) (paper (pick t (Err (reply 1 0)) (run_answer r)))
    by true r h = BurstInTable.too_long
    by false (going s m) h = rw h BurstInTable.so_far
    by false (refused r) h = BurstInTable.line r h

-- a number that is none of the calls' own, and that a word holds
abbrev Apart : ℕ → Type 0
Apart n = (n ≤ 16) ⊎ ((24 ≤ n) × (n < 128))

-- the numbers that a record can hold
known_apart : (n : ℕ) → is_strange n ≡ false → Apart n
unfolding is_strange
known_apart n h =
    ⊎_elim (λ a. ⊎_elim (λ b. by (eqb n 1) (rw (lt-ltb 15 n b, lt-ltb n 24 a) at h)) (λ b. inl (omega arith)) (below_or_not 15 n))
    (λ a. few a (eqb n 1) (ltb 25 n) refl (rw (lt-ltb 15 n (omega arith), le-ltb n 24 a) at h)) (below_or_not n 24)
  where
    few : 24 ≤ n → (t u : Bool) → ltb 25 n ≡ u → t || u ≡ false → Apart n
    few a true u q e = false_not_true (sym e)
    few a false true q e = false_not_true (sym e)
    few a false false q e = inr (a, omega (arith, ltb-false 25 n q))

    by : (t : Bool) → t || true ≡ false → Apart n
    by true e = false_not_true (sym e)
    by false e = false_not_true (sym e)

end_apart : (p : Place) (sets n : ℕ) → Apart (at_end p sets n).number
end_apart Outside sets n = of_either (λ (r : Reply). Apart r.number) (eqb sets 0) (reply 16 0) (reply 0 n) (inl (omega arith)) (inl (omega arith))
end_apart Number sets n = inl (omega arith)
end_apart Plain sets n = inl (omega arith)
end_apart (Typed d) sets n = inl (omega arith)

fault_apart : (columns bad : ℕ) → Apart (fault_of false columns bad).number
unfolding fault_of
fault_apart columns bad = by (ltb 0 bad && leb bad columns) (ltb 80 columns)
  where
    by : (b long : Bool) → Apart (pick b (refusal 2 bad) (pick long (refusal 3 1) (refusal 4 1))).number
    by true long = inl (omega arith)
    by false true = inl (omega arith)
    by false false = inl (omega arith)

open_apart : (s : State) (n : ℕ) (o : OpenLine) → Apart (open_end (going s n) o).number
open_apart s n o =
    of_either (λ (r : Reply). Apart r.number) (eqb o.size 0) (at_end s.place s.sets n) (at_line n (open_fault false o)) (end_apart s.place s.sets n)
    (fault_apart (columns_of false o.last o.size) o.bad)

record Told (c : Stream) : Type 0 where
  so_far_lem : Apart (paper (so_far (seen c))).number
  end : Apart (end_reply (seen c)).number

told : (c : Stream) → Told c
told c = by (is_past c) refl
  where
    by : (t : Bool) → is_past c ≡ t → Told c
    by true e = record { so_far_lem = rw (seen_past c e) (inl (omega arith)); end = rw (seen_past c e) (inl (omega arith)) }
    by false e =
        ⊎_elim (λ (h : 0 < c.number).
        let z = seen_refused c e h in
        let known = known_apart c.number (number_known c e) in
        record { so_far_lem = rw z known; end = rw z known })
        (λ (h : c.number ≤ 0).
        let z = seen_going c e (omega arith) in
        record { so_far_lem = rw z (inr (omega arith, omega arith)); end = rw z (open_apart c.state c.lines (open_in c)) })
        (below_or_not 0 c.number)

-- an answer of a record that goes on is none of its refusals
apart_other : (m : ℕ) → Apart m → (m ≡ 20) ⊎ (m ≡ 23) → ⊥
apart_other m a n = ⊎_elim (λ few. ⊎_elim (λ h. omega arith) (λ h. omega arith) n) (λ many. ⊎_elim (λ h. omega (arith, many.0)) (λ h. omega (arith, many.0)) n) a

apart_small : (m : ℕ) → Apart m → m < 128
apart_small m a = ⊎_elim (λ few. omega arith) (λ many. many.1) a

-- replies in a form from which their number is taken
module _ {A : Type 0} {form : Reply → A} (number : A → ℕ) (taken : (x : Reply) → x.number < 128 → number (form x) ≡ x.number)
    {ns bs b ns' bs' : List ℕ} {r : A} (w : Burst form ns bs b ns' bs' r) (n : (number r ≡ 20) ⊎ (number r ≡ 23)) where
  told_other : (c : Stream) → r ≡ form (paper (so_far (seen c))) → ⊥
  told_other c e =
      let a = (told c).so_far_lem in
      let said : number r ≡ (paper (so_far (seen c))).number = ap number e ∙ taken (paper (so_far (seen c))) (apart_small (paper (so_far (seen c))).number a) in
      apart_other (number r) (rw said a) n

  kept_open : (t : Bool) → is_short ns bs ≡ false → (stream_of ns bs).ended ≡ t → Untouched ns bs ns' bs'
  unfolding answer_of
  kept_open true s e = (w.ended s e).0
  kept_open false s e =
      let u = w.further s e in
      let open_still : u.left.ended ≡ false = u.stepped.ended ∙ e in
      absurd (told_other u.left (u.said ∙ ap (λ (t : Bool). form (paper (answer_of t (seen u.left)))) open_still))

  kept_short : (t : Bool) → is_short ns bs ≡ t → Untouched ns bs ns' bs'
  kept_short true s = (w.short s).0
  kept_short false s = kept_open (stream_of ns bs).ended s refl

  kept : Untouched ns bs ns' bs'
  kept = kept_short (is_short ns bs) refl

module _ {ns bs b ns' bs' : List ℕ} where
  pub burst_kept : {r : Reply} → Burst same ns bs b ns' bs' r → (r.number ≡ 20) ⊎ (r.number ≡ 23) → Untouched ns bs ns' bs'
  burst_kept = kept (λ (x : Reply). x.number) (λ x h. refl)

  pub burst_kept_word : {w : ℕ} → Burst word ns bs b ns' bs' w → (number_in w ≡ 20) ⊎ (number_in w ≡ 23) → Untouched ns bs ns' bs'
  burst_kept_word = kept number_in word_number

pub start_kept : (ns bs : List ℕ) → 0 < (start_reply ns bs).number → (start_numbers ns bs ≡ ns) × (start_line ns bs ≡ bs)
unfolding start_reply start_numbers start_line
start_kept ns bs h = by (is_short ns bs) h
  where
    by : (t : Bool) → 0 < (pick t (reply 20 0) (reply 0 0)).number → (pick t ns (numbers_after fresh_record ns) ≡ ns) × (pick t bs (line_after fresh_record bs) ≡ bs)
    by true h = (refl, refl)
    by false h = absurd (omega arith)

pub end_kept : (ns bs : List ℕ) → (end_of ns bs).number ≡ 20 → end_numbers ns bs ≡ ns
unfolding end_of end_numbers
end_kept ns bs h = by (is_short ns bs) h
  where
    by : (t : Bool) → (pick t (reply 20 0) (end_reply (seen (stream_of ns bs)))).number ≡ 20 → pick t ns (set ns 11 1) ≡ ns
    by true h = refl
    by false h = absurd (⊎_elim (λ few. omega arith) (λ many. omega (arith, many.0)) (told (stream_of ns bs)).end)
