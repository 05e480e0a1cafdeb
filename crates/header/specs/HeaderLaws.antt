-- The laws that the header's judge needs: its first eleven lines, a line past them, and its end.
use Rattle.std.specs.Prelude.{◌≡◌, refl, Bool, true, false, List, [], ◌∷◌, ◌++◌, ℕ, zero, suc, ◌+◌, ◌-◌, ◌≤◌, ◌<◌, eqb, ltb, length, take}
use Rattle.std.proofs.Math.Path.{sym, ap}
use Rattle.std.proofs.Common.{◌∙◌, ⊎_elim, le_of_suc-le-suc, arith, ltb-true, ltb-false, lt-ltb, le-ltb, eq-eqb, ne_eqb, length-append, length-drop, take-append-drop, length-take-le, take_all}
use Rattle.std.proofs.Math.ListN.{drop}
use Rattle.std.proofs.Math.Seq.{take-append-add}
use Rattle.std.proofs.lemmas.List.{drop-append-le}
use Rattle.laws.specs.Choice.{pick}
use Rattle.laws.specs.ChoiceLaws.{below_or_not}
use Rattle.laws.specs.Cut.{text, onto, line_len, cut, over, judge}
use Rattle.laws.specs.CutLaws.{cut_append, cut_open, over_append, judge_at}
use Rattle.line.specs.Line.{refusal, columns, line_fault}
use Rattle.line.specs.LineLaws.{columns_take}
use Rattle.line.specs.declared.Refusal.{Refusal}
use Rattle.record_table.specs.TypedSets.{header_lines, kind58, is_typed, kind_of, typed_sets}
use Rattle.walk.specs.declared.Place.{Place}
use Rattle.walk.specs.declared.Place.TheVariants.{Typed}
use Rattle.walk.specs.Due.{opening}
use Rattle.walk.specs.Step as Step
use Rattle.walk.specs.declared.State.{State}
use Rattle.std.specs.Prelude.{Result, Ok, Err}
use Rattle.judge.specs.declared.Reply.{Reply}
use Rattle.judge.specs.Judge.{line_step, Run, going, refused, on_outcome, reply_at, at_line, run_step}
use Rattle.judge.specs.JudgeLaws as Judge
use Rattle.judge.specs.Lines.{Account, run_of, LinesJudged}
use Rattle.header.specs.declared.Header.{Header}
use Rattle.header.specs.Header.{Answer, result_of, answer_with, refused_at, opened, past_fault, header_step, leaves, header_end, header_of, FirstEleven}

-- a set 58 opens
pub opened_58 : Step.opened 58 ≡ Typed (opening kind58)
unfolding Step.opened is_typed kind_of typed_sets
opened_58 = refl

-- a refusal's result
pub refused_is : (r : Reply) (a : Answer) → 0 < r.number → answer_with r 0 0 ≡ a → Err r ≡ result_of a
refused_is r a p e = rw (← e, lt-ltb 0 r.number p) refl

-- what a result says of the answer
pub result_refused : (a : Answer) (r : Reply) → Err r ≡ result_of a → (0 < a.reply.number) × (r ≡ a.reply)
result_refused a r q = by (ltb 0 a.reply.number) refl q
  where
    by : (t : Bool) → ltb 0 a.reply.number ≡ t → ◌≡◌ {A = Result Header Reply} (Err r) (pick t (Err a.reply) (Ok (record { case = a.case; stored = a.stored }))) → (0 < a.reply.number) × (r ≡ a.reply)
    by true e u = (ltb-true 0 a.reply.number e, cc)
    by false e u = let z : ◌≡◌ {A = ℕ} 0 1 = cc in absurd (omega arith)

pub result_passes : (a : Answer) (h : Header) → Ok h ≡ result_of a → (a.reply.number ≤ 0) × (h.case ≡ a.case) × (h.stored ≡ a.stored)
result_passes a h q = by (ltb 0 a.reply.number) refl q
  where
    by :
        (t : Bool) → ltb 0 a.reply.number ≡ t → ◌≡◌ {A = Result Header Reply} (Ok h) (pick t (Err a.reply) (Ok (record { case = a.case; stored = a.stored })))
        → (a.reply.number ≤ 0) × (h.case ≡ a.case) × (h.stored ≡ a.stored)
    by true e u = let z : ◌≡◌ {A = ℕ} 0 1 = cc in absurd (omega arith)
    by false e u = (ltb-false 0 a.reply.number e, cc, cc)

-- a line past the eleventh
module _ (l : List ℕ) (n : ℕ) (e : n ≡ length (columns true l)) (f : Refusal) (q : f ≡ line_fault true (take n l)) where
  own : f ≡ line_fault true (columns true l)
  own = q ∙ ap (line_fault true) (rw e (sym (columns_take true l)))

  pub past_fault_lem : 0 < f.number → f ≡ past_fault (line_fault true (columns true l))
  past_fault_lem p = go f.number refl p ∙ ap past_fault own
    where
      go : (m : ℕ) → f.number ≡ m → 0 < m → f ≡ past_fault f
      go zero z p = absurd (omega arith)
      go (suc m) z p = rw z refl

  pub past_eight : f.number ≤ 0 → refusal 8 1 ≡ past_fault (line_fault true (columns true l))
  past_eight p = let z : f.number ≡ 0 = omega arith in sym (rw z refl) ∙ ap past_fault own

pub past_fault_some : (f : Refusal) → 0 < (past_fault f).number
past_fault_some f = by f.number refl
  where
    by : (m : ℕ) → f.number ≡ m → 0 < (past_fault f).number
    by zero e = rw e (omega arith)
    by (suc m) e = rw e (omega (arith, e))

-- the end of a header
module _ (s : State) (n : ℕ) where
  pub end_rest : (rest : List ℕ) → 0 < length rest → refused_at n (line_fault false rest) ≡ header_end (going s n) rest
  end_rest [] p = absurd (omega arith)
  end_rest (b ∷ bs) p = refl

  pub end_few : (rest : List ℕ) → length rest ≤ 0 → n < header_lines → refused_at n (refusal 7 1) ≡ header_end (going s n) rest
  end_few [] h l = rw (lt-ltb n header_lines l) refl
  end_few (b ∷ bs) h l = absurd (omega arith)

  pub end_place : (rest : List ℕ) (p : Place) → length rest ≤ 0 → header_lines ≤ n → s.place ≡ p → leaves p ≡ header_end (going s n) rest
  end_place [] p h l e = rw (le-ltb n header_lines l, e) refl
  end_place (b ∷ bs) p h l e = absurd (omega arith)

-- a refused run stays refused
pub over_refused : (r : Reply) (ls : List (List ℕ)) → over header_step (refused r) ls ≡ refused r
unfolding over
over_refused r [] = refl
over_refused r (l ∷ ls) = over_refused r ls

judge_refused : (r : Reply) (bytes : List ℕ) → judge header_step header_end (refused r) bytes ≡ answer_with r 0 0
unfolding judge
judge_refused r bytes = ap (λ (x : Run). header_end x (cut bytes).rest) (over_refused r (cut bytes).lines)

-- one turn of the loop over lines: from the place at on, the line that ends at e
module _ (s : State) (n : ℕ) (l : List ℕ) (at e : ℕ) (a : at ≤ length l) (q : e ≡ at + line_len (drop at l)) (h : e < length l) where
  turn : judge header_step header_end (going s n) (drop at l) ≡ judge header_step header_end (header_step (going s n) (take (e - at) (drop at l))) (drop (e + 1) l)
  turn = judge_at header_step header_end (going s n) l at e a q h

  pub header_past : (f : Refusal) → f ≡ past_fault (line_fault true (columns true (take (e - at) (drop at l)))) → header_lines ≤ n
      → refused_at n f ≡ judge header_step header_end (going s n) (drop at l)
  header_past f u p = sym (turn ∙ rw (le-ltb n header_lines p, ← u) (judge_refused (at_line n f) (drop (e + 1) l)))

-- the first line with its LF
cut_first : (d : List ℕ) → line_len d < length d → cut (take (suc (line_len d)) d) ≡ text (take (line_len d) d ∷ []) []
unfolding cut line_len
cut_first [] h = absurd (omega arith)
cut_first (b ∷ d) h = go (eqb b 10) refl (λ k. cut_first d k)
  where
    go : (t : Bool) → eqb b 10 ≡ t → (line_len d < length d → cut (take (suc (line_len d)) d) ≡ text (take (line_len d) d ∷ []) [])
        → cut (take (suc (line_len (b ∷ d))) (b ∷ d)) ≡ text (take (line_len (b ∷ d)) (b ∷ d) ∷ []) []
    go true e ih = simp e
    go false e ih = simp e (rw (ih (le_of_suc-le-suc (simp e at h))) refl)

-- one turn of the loop that looks for the eleventh LF: from the place at on, the line that ends at e
module _ (b : List ℕ) (at e : ℕ) (a : at ≤ length b) (q : e ≡ at + line_len (drop at b)) (whole : (cut (take at b)).rest ≡ []) where
  cut_more : (d : List ℕ) → cut (take at b ++ d) ≡ text ((cut (take at b)).lines ++ (cut d).lines) (cut d).rest
  cut_more d = cut_append (take at b) d ∙ rw whole refl

  module _ (h : e < length b) where
    cut_to : cut (take (e + 1) b) ≡ text ((cut (take at b)).lines ++ (take (line_len (drop at b)) (drop at b) ∷ [])) []
    cut_to =
        let n : length (take at b) ≡ at = length-take-le at b a in
        let k : e + 1 ≡ length (take at b) + suc (line_len (drop at b)) = omega arith in
        let both = ap (take (length (take at b) + suc (line_len (drop at b)))) (sym (take-append-drop at b)) in
        let t : take (e + 1) b ≡ take at b ++ take (suc (line_len (drop at b))) (drop at b) = rw k (both ∙ take-append-add (take at b) (drop at b) (suc (line_len (drop at b)))) in
        ap cut t ∙ cut_more (take (suc (line_len (drop at b))) (drop at b)) ∙ rw (cut_first (drop at b) (simp length-drop (omega arith))) refl

    pub lines_to_lem : length (cut (take (e + 1) b)).lines ≡ length (cut (take at b)).lines + 1
    lines_to_lem = rw cut_to (simp length-append refl)

    pub rest_to : (cut (take (e + 1) b)).rest ≡ []
    rest_to = rw cut_to refl

  pub all_few : length b ≤ e → length (cut (take at b)).lines ≤ header_lines → FirstEleven b (length b)
  all_few h few =
      let o : cut (drop at b) ≡ text [] (drop at b) = cut_open (drop at b) (simp length-drop (omega arith)) in
      let n : length (cut b).lines ≡ length (cut (take at b)).lines =
      ap (λ (x : List ℕ). length (cut x).lines) (sym (take-append-drop at b)) ∙ rw (cut_more (drop at b), o) (simp length-append (omega arith)) in
      record { within = omega arith; few = rw (take_all (length b) b (omega arith)) (omega arith); full = λ l. absurd (omega arith) }

-- eleven lines at most: the header's step of each is the judge's
over_same : (s : State) (n : ℕ) (ls : List (List ℕ)) → n + length ls ≤ header_lines → over header_step (going s n) ls ≡ over run_step (going s n) ls
unfolding over
over_same s n [] h = refl
over_same s n (l ∷ ls) h = rw (lt-ltb n header_lines (omega arith)) (go (line_step s l) (λ t. over_same t (n + 1) ls (omega arith)))
  where
    go : (o : Result State Refusal) → ((t : State) → over header_step (going t (n + 1)) ls ≡ over run_step (going t (n + 1)) ls)
        → over header_step (on_outcome n o) ls ≡ over run_step (on_outcome n o) ls
    go (Ok t) ih = ih t
    go (Err f) ih = over_refused (at_line n f) ls ∙ sym (Judge.over_refused (at_line n f) ls)

-- a run that goes on counts the lines
over_count : (s : State) (n : ℕ) (ls : List (List ℕ)) (t : State) (m : ℕ) → going t m ≡ over run_step (going s n) ls → m ≡ n + length ls
unfolding over
over_count s n [] t m e = let z : m ≡ n = cc in omega arith
over_count s n (l ∷ ls) t m e = go (line_step s l) (λ t' e'. over_count t' (n + 1) ls t m e') e
  where
    go : (o : Result State Refusal) → ((t' : State) → going t m ≡ over run_step (going t' (n + 1)) ls → m ≡ n + 1 + length ls)
        → going t m ≡ over run_step (on_outcome n o) ls → m ≡ n + suc (length ls)
    go (Ok t') ih e' = omega (arith, ih t' e')
    go (Err f) ih e' =
        let u : going t m ≡ refused (at_line n f) = e' ∙ Judge.over_refused (at_line n f) ls in
        let z : ◌≡◌ {A = ℕ} 0 1 = cc in
        absurd (omega arith)

-- no LF stands in the bytes after the last one
rest_open : (l : List ℕ) → length (cut l).rest ≤ line_len (cut l).rest
unfolding cut line_len
rest_open [] = omega arith
rest_open (b ∷ l) = go (eqb b 10) refl (cut l).lines (cut l).rest (rest_open l)
  where
    go : (t : Bool) → eqb b 10 ≡ t → (ls : List (List ℕ)) (r : List ℕ) → length r ≤ line_len r
        → length (pick t (text ([] ∷ ls) r) (onto b ls r)).rest ≤ line_len (pick t (text ([] ∷ ls) r) (onto b ls r)).rest
    go true e ls r h = h
    go false e [] r h = rw e (omega arith)
    go false e (l' ∷ ls) r h = h

judge_append : (x : Run) (a d : List ℕ) → judge header_step header_end x (a ++ d) ≡ judge header_step header_end (over header_step x (cut a).lines) ((cut a).rest ++ d)
unfolding judge
judge_append x a d = rw (cut_append a d, over_append header_step x (cut a).lines (cut ((cut a).rest ++ d)).lines) refl

-- the first eleven lines judged, and what is left of the header
module _ (b : List ℕ) (k : ℕ) (f : FirstEleven b k) (r : Account) (j : LinesJudged opened 0 (take k b) 0 r) where
  whole : (x : Run) → run_of r.state r.lines r.number r.column ≡ x → header_of b ≡ judge header_step header_end x ((cut (take k b)).rest ++ drop k b)
  unfolding header_of
  whole x u =
      ap (judge header_step header_end (going opened 0)) (sym (take-append-drop k b)) ∙
      judge_append (going opened 0) (take k b) (drop k b) ∙
      ap (λ (y : Run). judge header_step header_end y ((cut (take k b)).rest ++ drop k b)) (over_same opened 0 (cut (take k b)).lines (omega (arith, f.few)) ∙ sym j.run ∙ u)

  pub header_refused : 0 < r.number → answer_with (reply_at r.number (r.lines + 1) r.column) 0 0 ≡ header_of b
  header_refused z = sym (whole (refused (reply_at r.number (r.lines + 1) r.column)) (rw (ne_eqb r.number 0 (λ y. omega arith)) refl) ∙ judge_refused _ _)

  module _ (z : r.number ≤ 0) where
    none : r.number ≡ 0
    none = omega arith

    count : r.lines ≡ length (cut (take k b)).lines
    count = omega (arith, over_count opened 0 (cut (take k b)).lines r.state r.lines (rw (eq-eqb r.number 0 none) at j.run))

    left : (cut (take k b)).rest ++ drop k b ≡ drop r.at b
    left = rw (← j.rest none) (sym (drop-append-le r.at (take k b) (drop k b) j.within) ∙ ap (drop r.at) (take-append-drop k b))

    pub header_going : judge header_step header_end (going r.state r.lines) (drop r.at b) ≡ header_of b
    header_going = sym (whole (going r.state r.lines) (rw (eq-eqb r.number 0 none) refl) ∙ ap (judge header_step header_end (going r.state r.lines)) left)

    pub at_most : r.at ≤ length b
    at_most = omega (arith, j.within, length-take-le k b f.within, f.within)

    pub eleven_most : r.lines ≤ header_lines
    eleven_most = omega (arith, count, f.few)

    pub eleven : (e : ℕ) → e ≡ r.at + line_len (drop r.at b) → e < length b → header_lines ≤ r.lines
    eleven e q h = ⊎_elim (λ l. omega (arith, count, f.full l)) (λ l. absurd (still l)) (below_or_not k (length b))
      where
        still : length b ≤ k → ⊥
        still l =
            let t : take k b ≡ b = take_all k b l in
            let u : drop r.at b ≡ (cut b).rest = rw t at (j.rest none) in
            let o : length (drop r.at b) ≤ line_len (drop r.at b) = rw u (rest_open b) in
            omega (arith, length-drop r.at b)
