-- A file is refused for what is wrong with its earliest bad line.
use Rattle.std.specs.Prelude.{◌≡◌, Bool, true, false, List, [], ◌∷◌, ℕ, suc, ◌+◌, ◌≤◌, ◌<◌, eqb, take, drop}
use Rattle.std.proofs.Math.Path.{refl, ap}
use Rattle.std.proofs.Common.{◌∙◌, add-zero, zero-add, arith, lt-ltb, le-ltb, take-append-drop}
use Rattle.std.proofs.Math.ListN.{length, length-drop, length-take}
use Rattle.laws.specs.Choice.{pick}
use Rattle.laws.specs.Cut.{cut, over, judge}
use Rattle.laws.specs.CutLaws.{over_append}
use Rattle.line.specs.Line.{refusal, line_fault}
use Rattle.line.specs.declared.Refusal.{Refusal}
use Rattle.walk.specs.Step.{start}
use Rattle.walk.specs.declared.Place.{Place}
use Rattle.walk.specs.declared.Place.TheVariants.{Outside, Number, Plain, Typed}
use Rattle.walk.specs.declared.State.{State}
use Rattle.std.specs.Prelude.{Result, Ok, Err}
use Rattle.judge.specs.Judge.{reply, at_line, line_step, Run, going, refused, on_outcome, run_step, at_end, run_end, judged}
use Rattle.judge.specs.JudgeLaws.{over_refused, unended_some}
use Rattle.line_laws.specs.Fault.{LineFault}
use Rattle.line_laws.specs.FaultLaws.{line_fault_fault, line_fault_only}
use Rattle.walk_laws.specs.Fault.{Fault}
use Rattle.walk_laws.specs.FaultLaws.{refused_fault, fault_refused}
use Rattle.walk_laws.specs.FileFault.{Taken, none, more, FileFault, line, unended, inside, Judged, accepted, no_set, at_line_lem}

-- a run over lines, after k others: it goes through, or stops at a line with something wrong
data Ran (s : State) (k : ℕ) (ls : List (List ℕ)) : Run → Type 0 where
  through : {t : State} → Taken s ls t → Ran s k ls (going t (k + length ls))
  stopped : {t : State} {f : Refusal} (j : ℕ) (l : List ℕ) (rest : List (List ℕ)) → Taken s (take j ls) t → drop j ls ≡ l ∷ rest → Fault t l f
      → Ran s k ls (refused (at_line (k + j) f))

ran_next : {s t : State} {k : ℕ} {l : List ℕ} {ls : List (List ℕ)} {r : Run} → line_step s l ≡ Ok t → Ran t (k + 1) ls r → Ran s k (l ∷ ls) r
ran_next {s} {t} {k} {l} {ls} e (through {t = u} p) =
    let m : k + suc (length ls) ≡ k + 1 + length ls = omega arith in
    let here : Ran s k (l ∷ ls) (going u (k + suc (length ls))) = through (more e p) in
    rw m at here
ran_next {s} {t} {k} {l} {ls} e (stopped {f = f} j x rest p q w) =
    let m : k + suc j ≡ k + 1 + j = omega arith in
    let here : Ran s k (l ∷ ls) (refused (at_line (k + suc j) f)) = stopped (suc j) x rest (more e p) q w in
    rw m at here

ran : (s : State) (k : ℕ) (ls : List (List ℕ)) → Ran s k ls (over run_step (going s k) ls)
unfolding over
ran s k [] = let here : Ran s k [] (going s (k + 0)) = through none in rw (add-zero k) at here
ran s k (l ∷ ls) = by (line_step s l) refl (λ t. ran t (k + 1) ls)
  where
    by : (o : Result State Refusal) → line_step s l ≡ o → ((t : State) → Ran t (k + 1) ls (over run_step (going t (k + 1)) ls)) → Ran s k (l ∷ ls) (over run_step (on_outcome k o) ls)
    by (Ok t) e r = ran_next e (r t)
    by (Err f) e r =
        let here : Ran s k (l ∷ ls) (refused (at_line (k + 0) f)) = stopped 0 l ls none refl (refused_fault s l f e) in
        rw (over_refused (at_line k f) ls) (rw (add-zero k) at here)

module _ (bytes : List ℕ) {s : State} (t : Taken start (cut bytes).lines s) where
  -- the end of a file whose lines are all taken
  end_judged : (rest : List ℕ) → (cut bytes).rest ≡ rest → Judged bytes (run_end (going s (length (cut bytes).lines)) rest)
  end_judged (b ∷ bs) e =
      let w : LineFault false (cut bytes).rest (line_fault false (b ∷ bs)) = rw e (line_fault_fault false (b ∷ bs) (unended_some (b ∷ bs))) in
      at_line_lem (unended t (rw e (omega arith)) w)
  end_judged [] e = by s.place refl
    where
      by_sets : (none : Bool) → Judged bytes (pick none (reply 16 0) (reply 0 (length (cut bytes).lines)))
      by_sets true = no_set
      by_sets false = accepted

      by : (p : Place) → s.place ≡ p → Judged bytes (at_end p s.sets (length (cut bytes).lines))
      by Outside q = by_sets (eqb s.sets 0)
      by Number q = at_line_lem (inside t e (λ o. let z : ◌≡◌ {A = ℕ} 0 1 = cc in omega arith))
      by Plain q = at_line_lem (inside t e (λ o. let z : ◌≡◌ {A = ℕ} 0 1 = cc in omega arith))
      by (Typed d) q = at_line_lem (inside t e (λ o. let z : ◌≡◌ {A = ℕ} 0 1 = cc in omega arith))

run_judged : (bytes : List ℕ) {r : Run} → Ran start 0 (cut bytes).lines r → Judged bytes (run_end r (cut bytes).rest)
run_judged bytes (through t) = rw zero-add (end_judged bytes t (cut bytes).rest refl)
run_judged bytes (stopped j l rest t q w) = rw (zero-add j) (at_line_lem (line j l rest t q w))

-- 1 "before all others"
pub too_long_judged : (bytes : List ℕ) → 16777216 < length bytes → judged bytes ≡ reply 1 0
unfolding judged
too_long_judged bytes h = rw (lt-ltb 16777216 (length bytes) h) refl

-- otherwise every reply that names a line is that of something wrong with it, where all lines before it are taken
pub judged_fault : (bytes : List ℕ) → length bytes ≤ 16777216 → Judged bytes (judged bytes)
unfolding judged judge
judged_fault bytes h = rw (le-ltb 16777216 (length bytes) h) (run_judged bytes (ran start 0 (cut bytes).lines))

-- The other way: a file with something wrong is refused for it.

taken_run : {s t : State} {ls : List (List ℕ)} (k : ℕ) → Taken s ls t → over run_step (going s k) ls ≡ going t (k + length ls)
unfolding over
taken_run k none = rw (add-zero k) refl
taken_run k (more {ls = ls} e t) =
    let m : k + suc (length ls) ≡ k + 1 + length ls = omega arith in
    rw (e, m) (taken_run (k + 1) t)

module _ (bytes : List ℕ) where
  -- the run over the lines before the one that is refused, and over all
  stopped_run : {s : State} {f : Refusal} (k : ℕ) (l : List ℕ) (ls : List (List ℕ)) → Taken start (take k (cut bytes).lines) s → drop k (cut bytes).lines ≡ l ∷ ls
      → line_step s l ≡ Err f → over run_step (going start 0) (cut bytes).lines ≡ refused (at_line k f)
  unfolding over
  stopped_run {s} {f} k l ls t q e =
      let n : 0 + length (take k (cut bytes).lines) ≡ k = omega (arith, length-take k (cut bytes).lines, length-drop k (cut bytes).lines, ap length q) in
      rw (← (take-append-drop k (cut bytes).lines), over_append run_step) (rw (taken_run 0 t, n, q, e) (over_refused (at_line k f) ls))

  all_run : {s : State} → Taken start (cut bytes).lines s → over run_step (going start 0) (cut bytes).lines ≡ going s (length (cut bytes).lines)
  all_run {s} t = taken_run 0 t ∙ ap (going s) (zero-add (length (cut bytes).lines))

  -- the file's end
  end_unended : (s : State) (n : ℕ) (rest : List ℕ) {f : Refusal} → 0 < length rest → line_fault false rest ≡ f → run_end (going s n) rest ≡ at_line n f
  end_unended s n [] h e = absurd (omega arith)
  end_unended s n (b ∷ bs) h e = rw e refl

  end_inside : (p : Place) (sets n : ℕ) → (p ≡ Outside → ⊥) → at_end p sets n ≡ at_line n (refusal 7 1)
  end_inside Outside sets n h = absurd (h refl)
  end_inside Number sets n h = refl
  end_inside Plain sets n h = refl
  end_inside (Typed d) sets n h = refl

  pub fault_judged : {k : ℕ} {f : Refusal} → length bytes ≤ 16777216 → FileFault bytes k f → judged bytes ≡ at_line k f
  unfolding judged judge
  fault_judged h (line {s} k l ls t q w) = rw (le-ltb 16777216 (length bytes) h, stopped_run k l ls t q (fault_refused s l w)) refl
  fault_judged h (unended {s} t p w) =
      rw (le-ltb 16777216 (length bytes) h, all_run t) (end_unended s (length (cut bytes).lines) (cut bytes).rest p (line_fault_only w))
  fault_judged h (inside {s} t e o) = rw (le-ltb 16777216 (length bytes) h, all_run t, e) (end_inside s.place s.sets (length (cut bytes).lines) o)
