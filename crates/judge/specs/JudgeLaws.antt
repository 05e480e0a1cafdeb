-- The laws that the judge's loop needs.
use Rattle.std.specs.Prelude.{◌≡◌, refl, true, false, List, [], ◌∷◌, ℕ, zero, suc, ◌≤◌, ◌<◌, length, take}
use Rattle.std.proofs.Common.{sym, arith, ⊎_elim, lt-ltb}
use Rattle.laws.specs.ChoiceLaws.{below_or_not}
use Rattle.laws.specs.Cut.{over}
use Rattle.line.specs.Line.{columns, line_fault, filled}
use Rattle.line.specs.LineLaws.{columns_take, unended_refused}
use Rattle.line.specs.declared.Refusal.{Refusal}
use Rattle.walk.specs.declared.State.{State}
use Rattle.std.specs.Prelude.{Err}
use Rattle.walk.specs.Step.{step_of}
use Rattle.judge.specs.declared.Reply.{Reply}
use Rattle.judge.specs.Judge.{line_outcome, line_step, refused, run_step, judged, at_line, run_end, going}

own_first : (s : State) (f : Refusal) (cs : List ℕ) → 0 < f.number → line_outcome s f cs ≡ Err f
own_first s f cs p = go f.number refl p
  where
    go : (n : ℕ) → f.number ≡ n → 0 < n → line_outcome s f cs ≡ Err f
    go zero e p = absurd (omega arith)
    go (suc n) e p = rw e refl

place_next : (s : State) (f : Refusal) (cs : List ℕ) → f.number ≤ 0 → line_outcome s f cs ≡ step_of s (filled cs)
place_next s f cs p = let e : f.number ≡ 0 = omega arith in rw e refl

-- a line's columns, as the first bytes before its LF
pub columns_first : (l : List ℕ) (n : ℕ) → n ≡ length (columns true l) → take n l ≡ columns true l
columns_first l n e = rw e (sym (columns_take true l))

module _ (s : State) (l : List ℕ) (n : ℕ) (e : n ≡ length (columns true l)) where
  module _ (f : Refusal) (q : f ≡ line_fault true (take n l)) where
    pub line_step_own : 0 < f.number → Err f ≡ line_step s l
    unfolding line_step
    line_step_own p = rw (← columns_first l n e, ← q) (sym (own_first s f (take n l) p))

    pub line_step_place : f.number ≤ 0 → step_of s (filled (take n l)) ≡ line_step s l
    unfolding line_step
    line_step_place p = rw (← columns_first l n e, ← q) (sym (place_next s f (take n l) p))

-- the end of a file where bytes stand after its last LF
pub run_end_rest : (s : State) (n : ℕ) (rest : List ℕ) → 0 < length rest → at_line n (line_fault false rest) ≡ run_end (going s n) rest
run_end_rest s n [] p = absurd (omega arith)
run_end_rest s n (b ∷ bs) p = refl

-- a refused run stays refused
pub over_refused : (r : Reply) (ls : List (List ℕ)) → over run_step (refused r) ls ≡ refused r
unfolding over
over_refused r [] = refl
over_refused r (l ∷ ls) = over_refused r ls

-- an accepted file is not too long
pub judged_short : (bytes : List ℕ) → (judged bytes).number ≤ 0 → length bytes ≤ 16777216
unfolding judged
judged_short bytes h = ⊎_elim (λ l. let z : ◌≤◌ 1 0 = rw (lt-ltb 16777216 (length bytes) l) at h in absurd (omega arith)) (λ l. l) (below_or_not 16777216 (length bytes))

-- bytes without an LF are always refused
pub unended_some : (cs : List ℕ) → 0 < (line_fault false cs).number
unended_some = unended_refused
