-- A refused header: its first eleven lines are refused as the file is that they open, and a twelfth by its own refusal, otherwise 8.
use Rattle.std.specs.Prelude.{◌≡◌, refl, ◌⊎◌, Bool, false, List, [], ◌∷◌, ◌++◌, ltb, length, get_or}
use Rattle.std.proofs.Common.{ap, ◌∙◌, lt-ltb, le-ltb}
use Rattle.std.proofs.Math.Logic.{inl, inr, ⊎_elim}
use Rattle.std.proofs.Math.Bool.{true}
use Prim.Native.Nat.{ℕ, suc, ◌+◌, ◌-◌, ◌≤◌, ◌<◌}
use native.Mathlib.Omega.{arith}
use Rattle.laws.specs.Choice.{pick}
use Rattle.laws.specs.ChoiceLaws.{below_or_not}
use Rattle.laws.specs.Cut.{cut, over, judge}
use Rattle.line.specs.declared.Refusal.{Refusal}
use Rattle.line.specs.Line.{refusal, columns, line_fault}
use Rattle.record_table.specs.TypedSets.{header_lines, kind58}
use Rattle.walk.specs.declared.Due.{Due}
use Rattle.walk.specs.declared.State.{State}
use Rattle.walk.specs.declared.Place.TheVariants.{Number, Typed}
use Rattle.std.specs.Prelude.{Result, Ok, Err}
use Rattle.walk.specs.Due.{opening, after}
use Rattle.walk.specs.Step.{state, start}
use Rattle.judge.specs.declared.Reply.{Reply}
use Rattle.judge.specs.Judge.{judged, reply_at, at_line, line_step, Run, going, on_outcome, run_step, run_end}
use Rattle.header.specs.Header.{answer, refused_at, opened, header_step, header_of}
use Rattle.judge.specs.JudgeLaws as Judge
use Rattle.header.specs.HeaderLaws.{over_refused}
use Rattle.parts.specs.Parts.{columns_in}
use Rattle.rewriter.specs.Rewriter.{head_text, plain_number}
use Rattle.rewriter.specs.Fair.{plain_delimiter}
use Rattle.writer_laws.specs.HeaderRun.{Passed, Stood, Taken, Met, ended, Met.taken, Met.stopped}
use Rattle.writer_laws.specs.HeaderRunLaws.{not_closed, after_stood, line_met, opened_stood, header_passed}
use Rattle.writer_laws.specs.LentLaws.{cut_after, over_line, cut_head, opens, numbered}
use Rattle.writer_laws.specs.HeaderRefused.{twelfth_fault}

-- a file from the same line on: it counts two lines more, the delimiter and the number line
abbrev filed : Due → ℕ → List (List ℕ) → List ℕ → Reply
filed d n ls rest = run_end (over run_step (going (state (Typed d) 1) (n + 2)) ls) rest

-- the reply h to a refused header whose lines from n on are these, and the reply r to the file
record Halted (n : ℕ) (ls : List (List ℕ)) (h r : Reply) : Type 0 where
  above : n < h.place
  below : h.place ≤ 12
  alike : (length ls + n ≤ header_lines) ⊎ (h.place ≤ header_lines) → r ≡ reply_at h.number (h.place + 2) h.column
  past : header_lines < length ls + n → header_lines < h.place → h ≡ at_line header_lines (twelfth_fault (get_or ls (header_lines - n) []))

abbrev Halts : Due → ℕ → List (List ℕ) → List ℕ → Type 0
Halts d n ls rest = Halted n ls (ended d n ls rest).reply (filed d n ls rest)

-- refused at this line, one of eleven, or the twelfth where no LF ends it
halted_here : (n : ℕ) (f : Refusal) (ls : List (List ℕ)) → n ≤ header_lines → (header_lines < length ls + n → n < header_lines) → Halted n ls (at_line n f) (at_line (n + 2) f)
halted_here n f ls b e =
    record {
      above = omega arith;
      below = omega arith;
      alike = λ c. ap (λ (p : ℕ). reply_at f.number p f.column) (omega arith);
      past = λ p q. absurd (omega (arith, e p));
    }

-- no line more
halted_end : (d : Due) (n : ℕ) (rest : List ℕ) → n ≤ header_lines → 0 < (ended d n [] rest).reply.number → Halts d n [] rest
unfolding over
halted_end d n (b ∷ bs) l h = halted_here n (line_fault false (b ∷ bs)) [] l (λ p. absurd (omega arith))
halted_end d n [] l h = by (ltb n header_lines) h
  where
    by : (t : Bool) → 0 < (pick t (refused_at n (refusal 7 1)) (answer 0 0 d.case d.left)).reply.number
        → Halted n [] (pick t (refused_at n (refusal 7 1)) (answer 0 0 d.case d.left)).reply (at_line (n + 2) (refusal 7 1))
    by true k = halted_here n (refusal 7 1) [] l (λ p. absurd (omega arith))
    by false k = absurd (omega arith)

-- one line more
module _ (d : Due) (n : ℕ) (l : List ℕ) (ls : List (List ℕ)) (rest : List ℕ) where
  abbrev later : Due
  later = after d (columns_in l)

  halted_taken : n < header_lines → Taken d l → Halts later (n + 1) ls rest → Halts d n (l ∷ ls) rest
  unfolding over
  halted_taken h t r =
      let z : header_lines - n ≡ suc (header_lines - (n + 1)) = omega arith in
      let y : n + 2 + 1 ≡ n + 1 + 2 = omega arith in
      rw (lt-ltb n header_lines h, t.step, y)
      (record {
        above = omega (arith, r.above);
        below = r.below;
        alike = λ c. r.alike (⊎_elim (λ a. inl (omega arith)) inr c);
        past = λ p q. rw z (r.past (omega arith) q);
      })

  halted_stopped : n < header_lines → (f : Refusal) → line_step (state (Typed d) 1) l ≡ Err f → Halts d n (l ∷ ls) rest
  unfolding over
  halted_stopped h f e =
      rw (lt-ltb n header_lines h, e, over_refused (at_line n f) ls, Judge.over_refused (at_line (n + 2) f) ls)
      (halted_here n f (l ∷ ls) (omega arith) (λ p. h))

  halted_past : n ≡ header_lines → Halts d n (l ∷ ls) rest
  unfolding over
  halted_past e =
      let z : header_lines - n ≡ 0 = omega arith in
      rw (le-ltb n header_lines (omega arith), over_refused (at_line n (twelfth_fault l)) ls)
      (record {
        above = omega arith;
        below = omega arith;
        alike = ⊎_elim (λ a. absurd (omega arith)) (λ a. absurd (omega arith));
        past = λ p q. rw (z, e) refl;
      })

  halted_line : Stood n d → n ≤ header_lines → 0 < (ended d n (l ∷ ls) rest).reply.number
      → (Stood (n + 1) later → n + 1 ≤ header_lines → 0 < (ended later (n + 1) ls rest).reply.number → Halts later (n + 1) ls rest)
      → Halts d n (l ∷ ls) rest
  unfolding over
  halted_line s b k ih = ⊎_elim (λ h. met h (line_met d l (not_closed n d s h))) (λ h. halted_past (omega arith)) (below_or_not n header_lines)
    where
      met : n < header_lines → Met d l → Halts d n (l ∷ ls) rest
      met h (taken t) = halted_taken h t (ih (after_stood n d s h (columns true l) t.row) (omega arith) (rw (lt-ltb n header_lines h, t.step) at k))
      met h (stopped f e p) = halted_stopped h f e

halted : (ls : List (List ℕ)) (d : Due) (n : ℕ) (rest : List ℕ) → Stood n d → n ≤ header_lines → 0 < (ended d n ls rest).reply.number → Halts d n ls rest
halted [] d n rest s b h = halted_end d n rest b h
halted (l ∷ ls) d n rest s b h = halted_line d n l ls rest s b h (λ t c k. halted ls (after d (columns_in l)) (n + 1) rest t c k)

module _ (header : List ℕ) (h : 0 < (header_of header).reply.number) where
  whole : Halted 0 (cut header).lines (header_of header).reply (filed (opening kind58) 0 (cut header).lines (cut header).rest)
  unfolding header_of judge
  whole = halted (cut header).lines (opening kind58) 0 (cut header).rest opened_stood (omega arith) h

  -- refused at a line: "lines counted from 1", and none is read past a twelfth
  pub refused_place : (1 ≤ (header_of header).reply.place) × ((header_of header).reply.place ≤ 12)
  refused_place = (whole.above, whole.below)

  -- in a file the lines of the header are judged as they are here
  file_run : length (head_text 58 ++ header) ≤ 16777216 → judged (head_text 58 ++ header) ≡ filed (opening kind58) 0 (cut header).lines (cut header).rest
  unfolding judged judge
  file_run b =
      rw (le-ltb 16777216 (length (head_text 58 ++ header)) b, cut_head header)
      (ap (λ (r : Run). run_end r (cut header).rest) (over_line start 0 plain_delimiter opens _ ∙ over_line (state Number 1) 1 (plain_number 58) numbered _))

  -- "judged as lines 1 to 11 of a set": at most eleven lines are refused as the file is that they open, two lines further down there; so is a longer
  -- header that is refused at one of its first eleven lines
  pub refused_judged : (length (cut header).lines ≤ header_lines) ⊎ ((header_of header).reply.place ≤ header_lines) → length (head_text 58 ++ header) ≤ 16777216
      → judged (head_text 58 ++ header) ≡ reply_at (header_of header).reply.number ((header_of header).reply.place + 2) (header_of header).reply.column
  refused_judged e b = file_run b ∙ whole.alike (⊎_elim (λ few. inl (omega arith)) inr e)

  -- one refused past them is refused for its twelfth line
  pub past_refused : header_lines < length (cut header).lines → header_lines < (header_of header).reply.place
      → (header_of header).reply ≡ at_line header_lines (twelfth_fault (get_or (cut header).lines header_lines []))
  past_refused l p = whole.past (omega arith) p

-- up to eleven lines are taken in a header as in a file
step_alike : (s : State) (n : ℕ) (l : List ℕ) → n < header_lines → header_step (going s n) l ≡ on_outcome n (line_step s l)
step_alike s n l h = rw (lt-ltb n header_lines h) refl

steps_alike : (ls more : List (List ℕ)) (s : State) (n : ℕ) → length ls + n ≤ header_lines
    → over header_step (going s n) (ls ++ more) ≡ over header_step (over run_step (going s n) ls) more
unfolding over
steps_alike [] more s n h = refl
steps_alike (l ∷ ls) more s n h =
    ap (λ (r : Run). over header_step r (ls ++ more)) (step_alike s n l (omega arith)) ∙ by (line_step s l) (λ t. steps_alike ls more t (n + 1) (omega arith))
  where
    by : (o : Result State Refusal)
        → ((t : State) → over header_step (going t (n + 1)) (ls ++ more) ≡ over header_step (over run_step (going t (n + 1)) ls) more)
        → over header_step (on_outcome n o) (ls ++ more) ≡ over header_step (over run_step (on_outcome n o) ls) more
    by (Ok t) ih = ih t
    by (Err f) ih =
        let r : Reply = at_line n f in
        rw (Judge.over_refused r ls, over_refused r (ls ++ more), over_refused r more) refl

-- "a twelfth is 8": a header that passes, with a line more
pub twelfth_refused : (header more l : List ℕ) (ls : List (List ℕ)) → (header_of header).reply.number ≡ 0 → (cut more).lines ≡ l ∷ ls
    → header_of (header ++ more) ≡ refused_at header_lines (twelfth_fault l)
unfolding header_of judge over
twelfth_refused header more l ls h e =
    let p : Passed header = header_passed header h in
    rw (cut_after header more p.rest, e, steps_alike (cut header).lines (l ∷ ls) opened 0 (omega (arith, p.lines)), p.run 0, over_refused (at_line header_lines (twelfth_fault l)) ls)
    refl
