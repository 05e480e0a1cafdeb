-- The laws that the loop over lines needs, and what its answer says of a whole file.
use Rattle.std.specs.Prelude.{◌≡◌, Bool, true, false, ◌&&◌, List, [], ◌∷◌, ◌++◌, ℕ, ◌+◌, ◌-◌, ◌≤◌, ◌<◌, eqb, length, take, drop}
use Rattle.std.proofs.Math.Path.{refl, sym, ap}
use Rattle.std.proofs.Common.{◌∙◌, ⊎_elim, not-suc-le-zero, le_of_suc-le-suc, eq-eqb, eqb-true, ne_eqb, length-drop, drop-drop}
use Prim.{Unit, tt}
use native.Mathlib.Omega.{arith}
use Rattle.laws.specs.Choice.{pick}
use Rattle.laws.specs.Cut.{text, cut, line_len, over, judge}
use Rattle.laws.specs.ChoiceLaws.{and_left, below_or_not}
use Rattle.laws.specs.CutLaws.{cut_line, cut_open}
use Rattle.line.specs.declared.Refusal.{Refusal}
use Rattle.walk.specs.declared.State.{State}
use Rattle.std.specs.Prelude.{Result, Ok, Err}
use Rattle.judge.specs.declared.Reply.{Reply}
use Rattle.judge.specs.Judge.{reply_at, at_line, line_step, Run, going, refused, on_outcome, run_step, run_end}
use Rattle.usual.specs.declared.Ahead.{Ahead}
use Rattle.usual.specs.Taken.{LineTaken, Taken, RanAhead}
use Rattle.usual.specs.TakenLaws.{taken_within}
use Rattle.judge.specs.Lines.{Account, run_of, lines_at, lines_to, LinesJudged}
use Rattle.judge.specs.JudgeLaws.{over_refused}
use Rattle.judge.specs.Refusal.{LineNumber}
use Rattle.judge.specs.RefusalLaws.{refusal_sure, line_number}

-- a loop over the finished lines of bytes: the line from one place to an LF, and the end
module _ (b : List ℕ) (from e : ℕ) (a : from ≤ length b) (q : e ≡ from + line_len (drop from b)) where
  module _ (h : e < length b) where
    cut_next : cut (drop from b) ≡ text (take (e - from) (drop from b) ∷ (cut (drop (e + 1) b)).lines) (cut (drop (e + 1) b)).rest
    cut_next =
        let n : line_len (drop from b) ≡ e - from = omega arith in
        let k : from + (e - from + 1) ≡ e + 1 = omega arith in
        cut_line (drop from b) (simp length-drop (omega arith)) ∙ rw (n, drop-drop, k) refl

    pub rest_next : (cut (drop (e + 1) b)).rest ≡ (cut (drop from b)).rest
    rest_next = rw cut_next refl

    module _ (s : State) (n : ℕ) (o : Result State Refusal) (p : o ≡ line_step s (take (e - from) (drop from b))) where
      turn : (x : Result State Refusal) → o ≡ x → over run_step (going s n) (cut (drop from b)).lines ≡ over run_step (on_outcome n x) (cut (drop (e + 1) b)).lines
      unfolding over
      turn x u = rw cut_next (ap (λ (y : Result State Refusal). over run_step (on_outcome n y) (cut (drop (e + 1) b)).lines) (sym p ∙ u))

      pub lines_next : (t : State) → o ≡ Ok t → over run_step (going t (n + 1)) (cut (drop (e + 1) b)).lines ≡ over run_step (going s n) (cut (drop from b)).lines
      lines_next t u = sym (turn (Ok t) u)

      lines_stop : (f : Refusal) → o ≡ Err f → refused (at_line n f) ≡ over run_step (going s n) (cut (drop from b)).lines
      lines_stop f u = sym (turn (Err f) u ∙ over_refused (at_line n f) (cut (drop (e + 1) b)).lines)

  cut_last_lem : length b ≤ e → cut (drop from b) ≡ text [] (drop from b)
  cut_last_lem h = cut_open (drop from b) (simp length-drop (omega arith))

  module _ (s₀ : State) (n₀ at : ℕ) (w : at ≤ length b) (s : State) (n : ℕ) (few : n + at ≤ n₀ + from)
      (run : over run_step (going s n) (cut (drop from b)).lines ≡ over run_step (going s₀ n₀) (cut (drop at b)).lines) where
    pub judged_to_stop : e < length b → (o : Result State Refusal) → o ≡ line_step s (take (e - from) (drop from b)) → (f : Refusal) → o ≡ Err f
        → (r : Account) → r ≡ lines_at s n f.number f.column from → LinesJudged s₀ n₀ b at r
    judged_to_stop h o p f u r is =
        let z : 0 < f.number = refusal_sure s (take (e - from) (drop from b)) f (sym p ∙ u) in
        rw is
        record {
          run = rw (ne_eqb f.number 0 (λ y. omega arith)) (lines_stop h s n o p f u ∙ run);
          rest = λ y. absurd (omega arith);
          within = a;
          few = omega arith;
          fewer = λ y. omega arith;
        }

    pub judged_to_end : length b ≤ e → (cut (drop from b)).rest ≡ (cut (drop at b)).rest → (r : Account) → r ≡ lines_to s n from → LinesJudged s₀ n₀ b at r
    unfolding over
    judged_to_end h rest r is =
        rw is
        record {
          run = sym (rw (cut_last_lem h) refl) ∙ run;
          rest = λ y. sym (rw (cut_last_lem h) refl) ∙ rest;
          within = a;
          few = omega arith;
          fewer = λ y. absurd (omega arith);
        }

-- lines taken in a run are steps of the loop
module _ (b : List ℕ) (s t : State) (from to : ℕ) (h : from ≤ length b) (l : LineTaken b s from t to) where
  abbrev end : ℕ
  end = from + line_len (drop from b)

  inside : end < length b
  inside = omega (arith, l.ends, l.within)

  stepped : line_step s (take (end - from) (drop from b)) ≡ Ok t
  unfolding line_step
  stepped = let n : end - from ≡ line_len (drop from b) = omega arith in rw (n, l.whole) l.step

  line_lines : (n : ℕ) → over run_step (going t (n + 1)) (cut (drop to b)).lines ≡ over run_step (going s n) (cut (drop from b)).lines
  line_lines n = rw l.ends (lines_next b from end h refl inside s n (line_step s (take (end - from) (drop from b))) refl t stepped)

  line_rest : (cut (drop to b)).rest ≡ (cut (drop from b)).rest
  line_rest = rw l.ends (rest_next b from end h refl inside)

module _ {b : List ℕ} {s : State} {from : ℕ} (h : from ≤ length b) where
  pub run_lines : {t : State} {k to : ℕ} (n : ℕ) → Taken b s from t k to
      → over run_step (going t (n + k)) (cut (drop to b)).lines ≡ over run_step (going s n) (cut (drop from b)).lines
  run_lines n Taken.none = let e : n + 0 ≡ n = omega arith in rw e refl
  run_lines n (Taken.more {t} {u} {k} {at} {to} r l) =
      let e : n + (k + 1) ≡ n + k + 1 = omega arith in
      rw e (line_lines b t u at to (taken_within h r) l (n + k) ∙ run_lines n r)

  pub run_rest : {t : State} {k to : ℕ} → Taken b s from t k to → (cut (drop to b)).rest ≡ (cut (drop from b)).rest
  run_rest Taken.none = refl
  run_rest (Taken.more {t} {u} {k} {at} {to} r l) = line_rest b t u at to (taken_within h r) l ∙ run_rest r

-- where the loop stands: the lines before byte `from` are judged
pub record Reached (b : List ℕ) (s₀ : State) (n₀ at : ℕ) (s : State) (n from : ℕ) : Type 0 where
  pub within : from ≤ length b
  pub few : n + at ≤ n₀ + from
  pub same_lines : over run_step (going s n) (cut (drop from b)).lines ≡ over run_step (going s₀ n₀) (cut (drop at b)).lines
  pub same_rest : (cut (drop from b)).rest ≡ (cut (drop at b)).rest

pub reached_ahead : (b : List ℕ) (s₀ : State) (n₀ at : ℕ) (s : State) (n from : ℕ) (r : Ahead) → Reached b s₀ n₀ at s n from → RanAhead b s from r
    → Reached b s₀ n₀ at r.state (n + r.lines) r.at
reached_ahead b s₀ n₀ at s n from r g a =
    record {
      within = a.within;
      few = omega (arith, g.few, a.few);
      same_lines = run_lines g.within n a.taken ∙ g.same_lines;
      same_rest = run_rest g.within a.taken ∙ g.same_rest;
    }

-- what is left of the loop: bytes, and whether a run is tried; a run that takes no line is not tried again at once
abbrev pub to_go : ℕ → ℕ → ℕ
to_go rest wait = rest + rest + (1 - wait)

pub ahead_less : (b : List ℕ) (s : State) (from wait : ℕ) (t : Bool) (r : Ahead) → from < length b → eqb wait 0 && t ≡ true → RanAhead b s from r
    → to_go (length b - r.at) r.wait < to_go (length b - from) wait
ahead_less b s from wait t r h e a =
    let z : wait ≡ 0 = eqb-true wait 0 (and_left (eqb wait 0) t e) in
    ⊎_elim (λ (on : from < r.at). omega (arith, a.within)) (λ (no : r.at ≤ from). omega (arith, a.moves no, a.few)) (below_or_not from r.at)

pub line_less : (b : List ℕ) (from e wait w : ℕ) → e ≡ from + line_len (drop from b) → e < length b → to_go (length b - (e + 1)) w < to_go (length b - from) wait
line_less b from e wait w q h = let m : length b - (e + 1) + 1 ≤ length b - from = omega arith in omega arith

-- the whole of the bytes, from their finished lines judged
module _ (s : State) (n : ℕ) (b : List ℕ) (r : Account) (j : LinesJudged s n b 0 r) where
  pub whole_refused : 0 < r.number → reply_at r.number (r.lines + 1) r.column ≡ judge run_step run_end (going s n) b
  unfolding judge
  whole_refused z =
      let e : refused (reply_at r.number (r.lines + 1) r.column) ≡ over run_step (going s n) (cut b).lines = rw (ne_eqb r.number 0 (λ y. omega arith)) at j.run in
      ap (λ (x : Run). run_end x (cut b).rest) e

  pub whole_going : r.number ≤ 0 → run_end (going r.state r.lines) (drop r.at b) ≡ judge run_step run_end (going s n) b
  unfolding judge
  whole_going z =
      let z' : r.number ≡ 0 = omega arith in
      let e : going r.state r.lines ≡ over run_step (going s n) (cut b).lines = rw (eq-eqb r.number 0 z') at j.run in
      rw (j.rest z') (ap (λ (x : Run). run_end x (cut b).rest) e)

-- bytes with no LF among them, and an LF: one line
line_ended : (l : List ℕ) → length l ≤ line_len l → cut (l ++ (10 ∷ [])) ≡ text (l ∷ []) []
unfolding cut line_len
line_ended [] h = refl
line_ended (b ∷ l) h = go (eqb b 10) refl (λ k. line_ended l k)
  where
    go : (t : Bool) → eqb b 10 ≡ t → (length l ≤ line_len l → cut (l ++ (10 ∷ [])) ≡ text (l ∷ []) []) → cut (b ∷ (l ++ (10 ∷ []))) ≡ text ((b ∷ l) ∷ []) []
    go true e ih = absurd (not-suc-le-zero (simp e at h))
    go false e ih = simp e (rw (ih (le_of_suc-le-suc (simp e at h))) refl)

abbrev lines_of : Run → ℕ
lines_of (going s n) = n
lines_of (refused r) = r.place

module _ (s : State) (n : ℕ) (l : List ℕ) (q : length l ≤ line_len l) (r : Account) (j : LinesJudged s n (l ++ (10 ∷ [])) 0 r) where
  pub one_run : run_of r.state r.lines r.number r.column ≡ on_outcome n (line_step s l)
  unfolding over
  one_run = j.run ∙ rw (line_ended l q) refl

  pub one_more : r.lines ≤ n + 1
  one_more = go (eqb r.number 0) (line_step s l) one_run
    where
      go : (t : Bool) (o : Result State Refusal) → pick t (going r.state r.lines) (refused (reply_at r.number (r.lines + 1) r.column)) ≡ on_outcome n o → r.lines ≤ n + 1
      go true (Ok t) e = omega (arith, ap lines_of e)
      go true (Err f) e = omega (arith, ap lines_of e)
      go false (Ok t) e = omega (arith, ap lines_of e)
      go false (Err f) e = omega (arith, ap lines_of e)

-- a run that is refused has a line's number
abbrev Numbered : Run → Type 0
Numbered (going s n) = Unit {0}
Numbered (refused r) = LineNumber r.number

outcome_numbered : (s : State) (n : ℕ) (l : List ℕ) → Numbered (on_outcome n (line_step s l))
outcome_numbered s n l = by (line_step s l) refl
  where
    by : (o : Result State Refusal) → line_step s l ≡ o → Numbered (on_outcome n o)
    by (Ok t) e = tt
    by (Err f) e = line_number s l f e

step_numbered : (r : Run) (l : List ℕ) → Numbered r → Numbered (run_step r l)
step_numbered (going s n) l h = outcome_numbered s n l
step_numbered (refused r) l h = h

run_numbered : (ls : List (List ℕ)) (r : Run) → Numbered r → Numbered (over run_step r ls)
unfolding over
run_numbered [] r h = h
run_numbered (l ∷ ls) r h = run_numbered ls (run_step r l) (step_numbered r l h)

pub outcome_number : (s : State) (n : ℕ) (l : List ℕ) (r : Reply) → refused r ≡ on_outcome n (line_step s l) → LineNumber r.number
outcome_number s n l r h = rw (← h) at (outcome_numbered s n l)

pub judged_number : (s : State) (n : ℕ) (b : List ℕ) (at : ℕ) (r : Account) → LinesJudged s n b at r → 0 < r.number → LineNumber r.number
judged_number s n b at r j z =
    let e : refused (reply_at r.number (r.lines + 1) r.column) ≡ over run_step (going s n) (cut (drop at b)).lines = rw (ne_eqb r.number 0 (λ y. omega arith)) at j.run in
    rw (← e) at (run_numbered (cut (drop at b)).lines (going s n) tt)
