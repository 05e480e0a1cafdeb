-- The laws that a burst's step needs: what a record says, and the bytes that come, cut into lines.
use Rattle.std.specs.Prelude.{◌≡◌, Bool, ◌&&◌, leb, ◌||◌, List, [], ◌∷◌, ◌++◌, ◌⊎◌, ℕ, ◌+◌, ◌-◌, ◌≤◌, ◌<◌, min, eqb, get_or, drop, set, replicate}
use Rattle.std.proofs.Math.Path.{refl, sym, ap}
use Rattle.std.proofs.Common.{◌∙◌, append-nil, inl, inr, ⊎_elim, length-append, length-take, take-take, length-take-le}
use Rattle.std.proofs.Math.Bool.{true, false}
use native.Mathlib.Omega.{arith}
use borrow.Author.Tests.{ltb-false, lt-ltb, le-ltb, eq-eqb, ne_eqb}
use Rattle.std.proofs.Math.Dec.{ltb}
use Rattle.std.proofs.Math.ListN.{length, take, length-drop, length-set}
use Rattle.std.proofs.Math.Seq.{paste, take_all, take-append-add, get_or-set_same}
use Rattle.std.proofs.lemmas.List.Edits.{length-paste, take-paste}
use Rattle.std.proofs.lemmas.List.{take-set-le}
use Rattle.laws.specs.Choice.{pick}
use Rattle.laws.specs.ChoiceLaws.{below_or_not, false_not_true}
use Rattle.laws.specs.Cut.{cut, line_len, over}
use Rattle.laws.specs.CutLaws.{cut_line, cut_open}
use Rattle.line.specs.Line.{refusal, first_bad, verdict}
use Rattle.line.specs.LineLaws.{line_len_most, verdict_ok}
use Rattle.line.specs.declared.Refusal.{Refusal}
use Rattle.walk.specs.declared.State.{State}
use Rattle.std.specs.Prelude.{Result, Ok, Err}
use Rattle.walk.specs.Step.{start}
use Rattle.judge.specs.Judge.{reply_at, at_line, Run, going, refused, on_outcome, run_step, run_end}
use Rattle.judge.specs.declared.Reply.{Reply}
use Rattle.judge.specs.Lines.{Account, LinesJudged}
use Rattle.judge.specs.JudgeLaws.{over_refused}
use Rattle.judge.specs.Refusal.{LineNumber}
use Rattle.judge.specs.LinesLaws.{judged_number}
use Rattle.stream.specs.declared.Stream.{Stream}
use Rattle.stream.specs.Stream.{OpenLine, open_of, longer, columns_of, fault_of, open_outcome, Seen, in_limit, past, kept, line_end, arrived, step_of, is_strange, is_past}
use Rattle.stream.specs.Stream.{line_in, open_in, refusal_in, seen, Stepped, end_reply, closed, fresh_record, judged_on, arrived_on, at_total, Running, Pushed, made}
use Rattle.stream.specs.Stream.{pushed, lines_left, end_left, burst_left, left_open, left, lines_on, left_on}
use Rattle.stream.specs.OpenLineLaws.{get_d_within, longer_none, open_number}

or_left : (a b : Bool) → a || b ≡ false → a ≡ false
or_left true b h = h
or_left false b h = refl

or_true : (a : Bool) → a || true ≡ true
or_true true = refl
or_true false = refl

or_right : (a b : Bool) → a || b ≡ false → b ≡ false
or_right true b h = false_not_true (sym h)
or_right false b h = h

-- what a record says
module _ (c : Stream) where
  not_past : c.total ≤ 16777216 → c.lines ≤ c.total → c.held ≤ c.total → is_strange c.number ≡ false → is_past c ≡ false
  unfolding is_past
  not_past t l h n = rw (le-ltb 16777216 c.total t, le-ltb c.total c.lines l, le-ltb c.total c.held h) n

  too_long : 16777216 < c.total → is_past c ≡ true
  unfolding is_past
  too_long t = rw (lt-ltb 16777216 c.total t) refl

  pub past_not : is_past c ≡ false → (c.total ≤ 16777216) × (c.lines ≤ c.total) × (c.held ≤ c.total)
  unfolding is_past
  past_not h =
      let k = or_left ((ltb 16777216 c.total || ltb c.total c.lines) || ltb c.total c.held) (is_strange c.number) h in
      let l = or_left (ltb 16777216 c.total || ltb c.total c.lines) (ltb c.total c.held) k in (
        ltb-false _ _ (or_left (ltb 16777216 c.total) (ltb c.total c.lines) l),
        ltb-false _ _ (or_right (ltb 16777216 c.total) (ltb c.total c.lines) l),
        ltb-false _ _ (or_right (ltb 16777216 c.total || ltb c.total c.lines) (ltb c.total c.held) k),
      )

  pub number_known : is_past c ≡ false → is_strange c.number ≡ false
  unfolding is_past
  number_known h = or_right ((ltb 16777216 c.total || ltb c.total c.lines) || ltb c.total c.held) (is_strange c.number) h

  pub seen_past : is_past c ≡ true → seen c ≡ past
  unfolding seen
  seen_past p = rw p refl

  pub seen_going : is_past c ≡ false → c.number ≡ 0 → seen c ≡ in_limit (going c.state c.lines) (open_in c) c.total
  unfolding seen
  seen_going p z = rw (p, eq-eqb c.number 0 z) refl

  pub seen_refused : is_past c ≡ false → 0 < c.number → seen c ≡ in_limit (refused (refusal_in c)) (open_of []) c.total
  unfolding seen
  seen_refused p z = rw (p, ne_eqb c.number 0 (λ e. omega arith)) refl

  -- the end asked changes none of it
  pub seen_closed : seen (closed c) ≡ seen c
  unfolding seen closed is_past
  seen_closed = refl

  -- the end's reply, by whether the open line has bytes
  module _ (p : is_past c ≡ false) (z : c.number ≡ 0) where
    pub end_none : c.held ≡ 0 → run_end (going c.state c.lines) [] ≡ end_reply (seen c)
    end_none h = rw (seen_going p z, eq-eqb c.held 0 h) refl

    pub end_some : (c.held ≡ 0 → ⊥) → (f : Refusal) → f ≡ fault_of false c.held c.column → at_line c.lines f ≡ end_reply (seen c)
    unfolding columns_of
    end_some h f e = rw (seen_going p z, ne_eqb c.held 0 h, e) refl

-- an open line never passes at the end
open_some : (columns bad : ℕ) → 0 < (fault_of false columns bad).number
unfolding fault_of
open_some columns bad = by (ltb 0 bad && leb bad columns) (ltb 80 columns)
  where
    by : (t u : Bool) → 0 < (pick t (refusal 2 bad) (pick u (refusal 3 1) (refusal 4 1))).number
    by true u = omega arith
    by false true = omega arith
    by false false = omega arith

pub open_refused : (columns bad : ℕ) → Ok tt ≡ verdict (fault_of false columns bad) → ⊥
open_refused columns bad h = let z : (fault_of false columns bad).number ≡ 0 = verdict_ok _ h in omega (arith, open_some columns bad)

-- the numbers that bursts give
none_strange : is_strange 0 ≡ false
unfolding is_strange
none_strange = refl

line_known : (n : ℕ) → LineNumber n → is_strange n ≡ false
unfolding is_strange
line_known n (h, inl l) = rw (ne_eqb n 1 (λ e. omega arith), le-ltb 15 n l) refl
line_known n (h, inr l) = rw (ne_eqb n 1 (λ e. omega arith), lt-ltb 15 n (omega (arith, l)), le-ltb n 24 l.0, le-ltb 25 n l.1) refl

module _ (s : State) (n t : ℕ) (p : List ℕ) (limit : t ≤ 16777216) (few : n ≤ t) where
  made_going : (k h : ℕ) → h ≤ t → seen (made s n 0 k t p h) ≡ in_limit (going s n) (line_in p h k) t
  made_going k h m = seen_going (made s n 0 k t p h) (not_past (made s n 0 k t p h) limit few m none_strange) refl

  made_refused : (k column : ℕ) → LineNumber k → seen (made s n k column t p 0) ≡ in_limit (refused (reply_at k (n + 1) column)) (open_of []) t
  made_refused k column z =
      seen_refused (made s n k column t p 0) (not_past (made s n k column t p 0) limit few (omega arith) (line_known k z)) (omega (arith, z.0))

-- the bytes that a record holds, with more of them
module _ (p : List ℕ) (h k : ℕ) (b p' : List ℕ) (k' : ℕ) (pushed : Pushed p h b p') (found : k' ≡ pick (ltb 0 k) k (first_bad (h + 1) b)) where
  held_longer : line_in p' (h + length b) k' ≡ longer (line_in p h k) b
  unfolding longer
  held_longer = rw (pushed.first, pushed.last, found) refl

-- a burst on a record that is neither past the limit nor refused: no LF comes, or the open line's end
module _ (c : Stream) (b : List ℕ) (total : ℕ) (few : c.lines + length b ≤ total) (room : c.held + length b ≤ total) (limit : total ≤ 16777216)
    (e : ℕ) (at : e ≡ line_len b) (p : List ℕ) (k : ℕ) (pushed : Pushed c.pending c.held (take e b) p)
    (found : k ≡ pick (ltb 0 c.column) c.column (first_bad (c.held + 1) (take e b))) where
  abbrev Arrived : Seen → Type 0
  Arrived s = s ≡ arrived_on c b total

  abbrev open_now : OpenLine
  open_now = line_in p (c.held + e) k

  part_long : length (take e b) ≡ e
  part_long = length-take-le e b (omega (arith, line_len_most b))

  grown : open_now ≡ longer (open_in c) (take e b)
  grown = ap (λ (n : ℕ). line_in p (c.held + n) k) (sym part_long) ∙ held_longer c.pending c.held c.column (take e b) p k pushed found

  pub burst_still : length b ≤ e → Arrived (seen (made c.state c.lines 0 k total p (c.held + e)))
  burst_still l =
      let all : take e b ≡ b = take_all e b l in
      made_going c.state c.lines total p limit (omega arith) k (c.held + e) (omega (arith, line_len_most b)) ∙
      rw (grown, all, cut_open b (rw at at l)) refl

  pub burst_still_whole : length b ≤ e → made c.state c.lines 0 k total p (c.held + e) ≡ left_on c b total
  unfolding longer
  burst_still_whole l =
      let all : take e b ≡ b = take_all e b l in
      let n : e ≡ length b = omega (arith, line_len_most b) in
      rw (cut_open b (rw at at l), found, pushed.whole, all, n) refl

  module _ (l : e < length b) where
    abbrev rest : List ℕ
    rest = drop (e + 1) b

    first_whole : end_left c p (open_outcome c.state open_now) (cut rest).lines (cut rest).rest total ≡ left_on c b total
    first_whole = rw (grown, cut_line b (rw at at l), ← at, pushed.whole) refl

    pub burst_next_whole : (s : State) → open_outcome c.state open_now ≡ Ok s → lines_on s (c.lines + 1) rest total ≡ left_on c b total
    burst_next_whole s o = rw (← first_whole, o) refl

    pub burst_stops_whole : (f : Refusal) → open_outcome c.state open_now ≡ Err f → made c.state c.lines f.number f.column total p 0 ≡ left_on c b total
    burst_stops_whole f o = rw (← first_whole, o) refl

    first_line : Arrived (kept (over run_step (on_outcome c.lines (open_outcome c.state open_now)) (cut rest).lines) (open_of (cut rest).rest) total)
    first_line = rw (grown, cut_line b (rw at at l), ← at) refl

    pub burst_next : (s : State) → open_outcome c.state open_now ≡ Ok s → Arrived (judged_on s (c.lines + 1) rest total)
    unfolding judged_on
    burst_next s o = rw (← first_line, o) refl

    pub burst_stops : (f : Refusal) → open_outcome c.state open_now ≡ Err f → Arrived (seen (made c.state c.lines f.number f.column total p 0))
    burst_stops f o =
        made_refused c.state c.lines total p limit (omega arith) f.number f.column (open_number c.state open_now f o) ∙
        rw (← first_line, o, over_refused (at_line c.lines f) (cut rest).lines) refl

-- the lines of a burst from a place on
module _ (s : State) (n : ℕ) (b : List ℕ) (at total : ℕ) (few : n + (length b - at) ≤ total) (limit : total ≤ 16777216) (r : Account) (j : LinesJudged s n b at r) where
  pub lines_refused : (p : List ℕ) → 0 < r.number → seen (made s r.lines r.number r.column total p 0) ≡ judged_on s n (drop at b) total
  unfolding judged_on
  lines_refused p z =
      made_refused s r.lines total p limit (omega (arith, j.few)) r.number r.column (judged_number s n b at r j z) ∙
      rw (← j.run, ne_eqb r.number 0 (λ e. omega arith)) refl

  pub lines_going : (p q p' : List ℕ) (k : ℕ) → r.number ≤ 0 → length b ≤ total → line_in p 0 0 ≡ open_of [] → q ≡ drop r.at b → Pushed p 0 q p' → k ≡ first_bad 1 q
      → seen (made r.state r.lines 0 k total p' (length b - r.at)) ≡ judged_on s n (drop at b) total
  unfolding judged_on
  lines_going p q p' k z m none e pushed found =
      let z' : r.number ≡ 0 = omega arith in
      let h : length b - r.at ≡ 0 + length q = omega (arith, length-drop r.at b, ap length e) in
      let g : line_in p' (0 + length q) k ≡ longer (line_in p 0 0) q = held_longer p 0 0 q p' k pushed found in
      let o : line_in p' (length b - r.at) k ≡ open_of (drop r.at b) = rw (h, ← e) (g ∙ rw none (longer_none q)) in
      made_going r.state r.lines total p' limit (omega (arith, j.few)) k (length b - r.at) (omega arith) ∙
      rw (o, ← j.run, eq-eqb r.number 0 z', ← j.rest z') refl

-- the record that they leave
module _ (s : State) (n : ℕ) (b : List ℕ) (at total : ℕ) (r : Account) (j : LinesJudged s n b at r) where
  pub lines_refused_whole : 0 < r.number → made s r.lines r.number r.column total (replicate 81 0) 0 ≡ lines_on s n (drop at b) total
  lines_refused_whole z = let e : r.lines + 1 - 1 ≡ r.lines = omega arith in rw (← j.run, ne_eqb r.number 0 (λ e. omega arith), e) refl

  pub lines_going_whole : (q p' : List ℕ) (k : ℕ) → r.number ≤ 0 → q ≡ drop r.at b → Pushed (replicate 81 0) 0 q p' → k ≡ first_bad 1 q
      → made r.state r.lines 0 k total p' (length b - r.at) ≡ lines_on s n (drop at b) total
  lines_going_whole q p' k z e pushed found =
      let z' : r.number ≡ 0 = omega arith in
      let h : length b - r.at ≡ length (drop r.at b) = sym (length-drop r.at b) in
      rw (← j.run, eq-eqb r.number 0 z', ← j.rest z', found, pushed.whole, e, h) refl

-- the first i bytes laid after the first f of a record's line
module _ (line : List ℕ) (h : ℕ) (b : List ℕ) (f : ℕ) (clip : f ≡ min h 80) (wide : length line ≡ 81) where
  clipped : take h (take 80 line) ≡ take f line
  clipped =
      ⊎_elim
      (λ l. let e : f ≡ 80 = omega arith in let n : length (take 80 line) ≡ 80 = length-take-le 80 line (omega arith) in rw e (take_all h (take 80 line) (omega arith)))
      (λ l. let e : f ≡ h = omega arith in rw e (take-take h 80 line l))
      (below_or_not 80 h)

  module _ (line' : List ℕ) (i : ℕ) (pasted : line' ≡ paste line f b i) (within : i ≤ length b) (room : f + i ≤ 80) where
    wide' : length line' ≡ 81
    wide' = ap length pasted ∙ length-paste line f b i (omega arith) within ∙ wide

    laid : take (f + i) line' ≡ take f line ++ take i b
    laid = rw pasted (take-paste line f b i (omega arith) within)

    module _ (all : i ≡ min (80 - f) (length b)) where
      full : 80 ≤ f + length b → take (h + length b) (take 80 line') ≡ take 80 (take f line ++ b)
      full m =
          let j : f + i ≡ 80 = omega arith in
          let n : length (take 80 line') ≡ 80 = length-take-le 80 line' (omega (arith, wide')) in
          let g : length (take f line) ≡ f = length-take-le f line (omega arith) in
          let j' : 80 ≡ length (take f line) + i = omega arith in
          take_all (h + length b) (take 80 line') (omega arith) ∙ rw j at laid ∙ rw j' (sym (take-append-add (take f line) b i))

      part : f + length b < 80 → take (h + length b) (take 80 line') ≡ take 80 (take f line ++ b)
      part m =
          let e : h + length b ≡ f + i = omega arith in
          let g : length (take f line ++ b) ≤ 80 = omega (arith, length-append (take f line) b, length-take f line) in
          rw (e, take-take (f + i) 80 line' (omega arith), laid, take_all i b (omega arith)) (sym (take_all 80 (take f line ++ b) g))

      laid_first : take (h + length b) (take 80 line') ≡ take 80 (take h (take 80 line) ++ b)
      laid_first = rw clipped (⊎_elim part full (below_or_not (f + length b) 80))

      -- and then the last byte
      pub laid_pushed : 0 < length b → Pushed line h b (set line' 80 (get_or b (length b - 1) 0))
      unfolding pushed
      laid_pushed g =
          record {
            wide = simp length-set wide';
            first = rw (take-set-le 80 line' 80 (get_or b (length b - 1) 0) (omega arith)) laid_first;
            last = get_or-set_same line' 80 (get_or b (length b - 1) 0) 0 (omega (arith, wide')) ∙ get_d_within b (length b - 1) 0 (get_or line 80 0) (omega arith);
            whole = rw (ne_eqb (length b) 0 (λ e. omega arith), pasted, ← clip, ← all) refl;
          }

pub none_pushed : (line : List ℕ) (h : ℕ) (b : List ℕ) → length line ≡ 81 → length b ≡ 0 → Pushed line h b line
unfolding pushed
none_pushed line h [] w e =
    let n : h + 0 ≡ h = omega arith in
    record {
      wide = w;
      first = rw (n, append-nil (take h (take 80 line))) (sym (take_all 80 (take h (take 80 line)) (omega (arith, length-take h (take 80 line), length-take 80 line))));
      last = refl;
      whole = refl;
    }
none_pushed line h (x ∷ b) w e = absurd (omega arith)

-- a refused run takes nothing in
pub arrived_refused : (p : Reply) (o : OpenLine) (ls : List (List ℕ)) (rest : List ℕ) (n : ℕ) → arrived (refused p) o ls rest n ≡ in_limit (refused p) (open_of []) n
arrived_refused p o [] rest n = refl
arrived_refused p o (l ∷ ls) rest n = ap (λ (r : Run). kept r (open_of rest) n) (over_refused p ls)

-- the step of a record, by what it says
module _ (c : Stream) (b : List ℕ) where
  step_past : (is_past c ≡ true) ⊎ (16777216 < c.total + length b) → step_of (seen c) b ≡ past
  unfolding step_of seen
  step_past (inl p) = rw (seen_past c p) refl
  step_past (inr l) = go (is_past c) (eqb c.number 0)
    where
      go : (p z : Bool) → step_of (pick p past (pick z (in_limit (going c.state c.lines) (open_in c) c.total) (in_limit (refused (refusal_in c)) (open_of []) c.total))) b ≡ past
      go true z = refl
      go false true = rw (lt-ltb 16777216 (c.total + length b) l) refl
      go false false = rw (lt-ltb 16777216 (c.total + length b) l) refl

  module _ (p : is_past c ≡ false) (l : c.total + length b ≤ 16777216) where
    step_refused : 0 < c.number → step_of (seen c) b ≡ in_limit (refused (refusal_in c)) (open_of []) (c.total + length b)
    unfolding step_of
    step_refused z =
        rw (seen_refused c p z, le-ltb 16777216 (c.total + length b) l)
        (arrived_refused (refusal_in c) (open_of []) (cut b).lines (cut b).rest (c.total + length b))

    step_going : c.number ≡ 0 → step_of (seen c) b ≡ arrived_on c b (c.total + length b)
    unfolding step_of
    step_going z = rw (seen_going c p z, le-ltb 16777216 (c.total + length b) l) refl

-- what is within the limit is not past it
abbrev within : Seen → ℕ
within (in_limit r o n) = 1
within past = 0

not_past_limit : {A : Type 0} (r : Run) (o : OpenLine) (n : ℕ) → in_limit r o n ≡ past → A
not_past_limit r o n e = absurd (omega (arith, ap within e))

kept_within : {A : Type 0} (r : Run) (o : OpenLine) (n : ℕ) → kept r o n ≡ past → A
kept_within (going s m) o n e = not_past_limit (going s m) o n e
kept_within (refused p) o n e = not_past_limit (refused p) (open_of []) n e

arrived_within : {A : Type 0} (r : Run) (o : OpenLine) (ls : List (List ℕ)) (rest : List ℕ) (n : ℕ) → arrived r o ls rest n ≡ past → A
arrived_within r o [] rest n e = kept_within r (longer o rest) n e
arrived_within r o (l ∷ ls) rest n e = kept_within (over run_step (line_end r (longer o l)) ls) (open_of rest) n e

-- the end is not asked in a record that a burst leaves
lines_ended : (s : State) (r : Run) (rest : List ℕ) (total : ℕ) → (lines_left s r rest total).ended ≡ false
lines_ended s (going t n) rest total = refl
lines_ended s (refused p) rest total = refl

end_ended : (c : Stream) (p : List ℕ) (o : Result State Refusal) (ls : List (List ℕ)) (rest : List ℕ) (total : ℕ) → (end_left c p o ls rest total).ended ≡ false
end_ended c p (Ok s) ls rest total = lines_ended s (over run_step (going s (c.lines + 1)) ls) rest total
end_ended c p (Err f) ls rest total = refl

left_ended : (c : Stream) (ls : List (List ℕ)) (rest : List ℕ) (total : ℕ) → (burst_left c ls rest total).ended ≡ false
left_ended c [] rest total = refl
left_ended c (l ∷ ls) rest total = end_ended c (pushed c.pending c.held l) (open_outcome c.state (longer (open_in c) l)) ls rest total

-- a burst, after the end was asked and before
module _ (c : Stream) (b : List ℕ) where
  pub stepped_ended : c.ended ≡ true → Stepped c b c
  unfolding left
  stepped_ended e =
      record {
        untouched = λ h. refl;
        further = λ h. false_not_true (sym h ∙ e);
        saturated = λ h. false_not_true (sym h ∙ e);
        ended = refl;
        whole = rw e refl;
      }

  module _ (e : c.ended ≡ false) (total : ℕ) (t : Running c (length b) total) where
    stepped : (r : Stream) → seen r ≡ step_of (seen c) b → (seen r ≡ past → r.total ≡ 16777217) → r.ended ≡ c.ended → r ≡ left c b → Stepped c b r
    stepped r s l k w = record { untouched = λ h. false_not_true (sym e ∙ h); further = λ h. s; saturated = λ h. l; ended = k; whole = w }

    left_now : left c b ≡ left_open c b
    unfolding left
    left_now = ap (λ (t : Bool). pick t c (left_open c b)) e

    left_past : 16777216 < total → at_total c total ≡ left c b
    unfolding left_open
    left_past l = ap (at_total c) (t.stops l) ∙ sym (left_now ∙ go (t.beyond l))
      where
        go : (is_past c ≡ true) ⊎ (16777216 < c.total + length b) → left_open c b ≡ at_total c 16777217
        go (inl p) = rw p refl
        go (inr m) = rw (lt-ltb 16777216 (c.total + length b) m, or_true (is_past c)) refl

    pub stepped_past : (r : Stream) → 16777216 < total → r ≡ at_total c total → Stepped c b r
    stepped_past r l q = rw q (stepped (at_total c total) (seen_past (at_total c total) (too_long (at_total c total) l) ∙ sym (step_past c b (t.beyond l))) (λ p. t.stops l) refl (left_past l))

    module _ (l : total ≤ 16777216) where
      stays : is_past c ≡ false
      stays = (t.within l).0

      grown_total : total ≡ c.total + length b
      grown_total = (t.within l).1

      few : c.lines ≤ total
      few = omega (arith, past_not c stays, grown_total)

      pub bounds : c.lines + length b ≤ total
      bounds = omega (arith, past_not c stays, grown_total)

      pub room : c.held + length b ≤ total
      room = omega (arith, past_not c stays, grown_total)

      left_within : left c b ≡ pick (eqb c.number 0) (left_on c b total) (at_total c total)
      unfolding left_open
      left_within = left_now ∙ rw (stays, le-ltb 16777216 (c.total + length b) (rw grown_total at l), ← grown_total) refl

      pub stepped_refused : (r : Stream) → 0 < c.number → r ≡ at_total c total → Stepped c b r
      stepped_refused r z q =
          let u = seen_refused (at_total c total) (not_past (at_total c total) l few (omega (arith, room)) (number_known c stays)) z in
          let w : left c b ≡ at_total c total = left_within ∙ rw (ne_eqb c.number 0 (λ y. omega arith)) refl in
          rw q (stepped (at_total c total)
          (u ∙ rw grown_total (sym (step_refused c b stays (rw grown_total at l) z))) (λ p. not_past_limit _ _ _ (sym u ∙ p)) refl (sym w))

      pub stepped_going : (r : Stream) → c.number ≤ 0 → seen r ≡ arrived_on c b total → r ≡ left_on c b total → Stepped c b r
      stepped_going r z q w =
          stepped r (q ∙ rw grown_total (sym (step_going c b stays (rw grown_total at l) (omega arith))))
          (λ p. arrived_within (going c.state c.lines) (open_in c) (cut b).lines (cut b).rest total (sym q ∙ p))
          (ap (λ (x : Stream). x.ended) w ∙ left_ended c (cut b).lines (cut b).rest total ∙ sym e)
          (w ∙ sym (left_within ∙ rw (eq-eqb c.number 0 (omega arith)) refl))

-- no byte is held in a line of zeros
pub none_held : line_in (replicate 81 0) 0 0 ≡ open_of []
unfolding open_of first_bad
none_held = refl

-- what a fresh record says
pub fresh_says : (seen fresh_record ≡ in_limit (going start 0) (open_of []) 0) × (fresh_record.ended ≡ false)
unfolding fresh_record seen is_past is_strange open_of first_bad
fresh_says = (refl, refl)
