-- Every run of the judge over raw lines, from the image of a reading that stands, goes through or is stopped as the reader says.
use Rattle.std.specs.Prelude.{◌≡◌, refl, Bool, false, List, [], ◌∷◌, ltb}
use Rattle.std.proofs.Math.Path.{sym, ap}
use Rattle.std.proofs.Common.{◌∙◌, add-zero}
use Rattle.std.proofs.Math.Bool.{true}
use Prim.Native.Nat.{ℕ, zero, suc, ◌+◌}
use native.Mathlib.Omega.{arith}
use Rattle.std.proofs.Math.ListN.{length}
use Rattle.laws.specs.Choice.{pick}
use Rattle.laws.specs.Cut as Cut
use Rattle.line.specs.Line.{columns, first_bad, line_fault, refusal, passed}
use Rattle.line.specs.declared.Refusal.{Refusal}
use Rattle.std.specs.Prelude.{Result}
use Rattle.walk.specs.declared.State.{State}
use Rattle.judge.specs.declared.Reply.{Reply}
use Rattle.judge.specs.Judge.{reply_at, line_step, Run, going, refused, on_outcome}
use Rattle.line_laws.specs.Ends.{AllPass}
use Rattle.judge_laws.specs.ListReader.{Reading, read_line, read_lines}
use Rattle.judge_laws.specs.ListReaderSoundLaws.{bad_stays}
use Rattle.judge_laws.specs.Image.{Standing, image, Agrees}
use Rattle.judge_laws.specs.ImageLaws.{step_image}
use Rattle.judge_laws.specs.Ran.{run_over, Ran}

-- a refused run stays refused
run_over_refused : (p : Reply) (ls : List (List ℕ)) → run_over (refused p) ls ≡ refused p
unfolding Cut.over
run_over_refused p [] = refl
run_over_refused p (l ∷ ls) = run_over_refused p ls

all_pass_first : {l : List ℕ} {ls : List (List ℕ)} → AllPass (l ∷ ls) → line_fault true (columns true l) ≡ passed
all_pass_first (AllPass.more p a) = p

all_pass_rest : {l : List ℕ} {ls : List (List ℕ)} → AllPass (l ∷ ls) → AllPass ls
all_pass_rest (AllPass.more p a) = a

-- only a line that passes has number 0
pub line_fault_zero : (ended : Bool) (cs : List ℕ) → (line_fault ended cs).number ≡ 0 → line_fault ended cs ≡ passed
unfolding line_fault
line_fault_zero ended cs = by_tests ended (ltb 0 (first_bad 1 cs)) (ltb 80 (length cs))
  where
    fault : Bool → Bool → Bool → Refusal
    fault ended foul long = pick foul (refusal 2 (first_bad 1 cs)) (pick long (refusal 3 1) (pick ended passed (refusal 4 1)))

    by_tests : (ended foul long : Bool) → (fault ended foul long).number ≡ 0 → fault ended foul long ≡ passed
    by_tests ended true long h = absurd (omega arith)
    by_tests ended false true h = absurd (omega arith)
    by_tests false false false h = absurd (omega arith)
    by_tests true false false h = refl

-- the run from a line's outcome on
ran_agrees :
    (ls : List (List ℕ)) (k : ℕ) {o : Result State Refusal} {r : Reading} →
    Agrees o r →
    (Standing r → Ran ls r (k + 1) (run_over (going (image r) (k + 1)) ls)) →
    Ran ls r (k + 1) (run_over (on_outcome k o) ls)
ran_agrees ls k (Agrees.stands r s) next = next s
ran_agrees ls k (Agrees.refused n) next = rw run_over_refused (Ran.stopped n (λ a. bad_stays _))

module _ (l : List ℕ) (ls : List (List ℕ)) (r : Reading) (k : ℕ) where
  abbrev after : Reading
  after = read_line r (columns true l)

  -- a line that passes, in front of a run
  ran_more : {run : Run} → line_fault true (columns true l) ≡ passed → Ran ls after (k + 1) run → Ran (l ∷ ls) r k run
  unfolding read_lines
  ran_more p (Ran.through a s) =
      let e : k + 1 + length ls ≡ k + suc (length ls) = omega arith in
      rw e (Ran.through (AllPass.more p a) s)
  ran_more p (Ran.stopped n b) = Ran.stopped n (λ a. b (all_pass_rest a))

  -- the run from a line on, by the number of the line's own refusal
  ran_line :
      Standing r →
      (Standing after → Ran ls after (k + 1) (run_over (going (image after) (k + 1)) ls)) →
      (n : ℕ) →
      (line_fault true (columns true l)).number ≡ n →
      Ran (l ∷ ls) r k (run_over (on_outcome k (line_step (image r) l)) ls)
  unfolding line_step
  ran_line s next zero e =
      let p : line_fault true (columns true l) ≡ passed = line_fault_zero true (columns true l) e in
      ran_more p (rw p (ran_agrees ls k (step_image r (columns true l) s) next))
  ran_line s next (suc n) e = rw (e, run_over_refused) (Ran.stopped {p = reply_at (suc n) (k + 1) (line_fault true (columns true l)).column} (omega arith) (λ a. fails (all_pass_first a)))
    where
      fails : {A : Type 0} → line_fault true (columns true l) ≡ passed → A
      fails p = let z : suc n ≡ 0 = sym e ∙ ap (λ (f : Refusal). f.number) p in absurd (omega arith)

pub run_over_ran : (ls : List (List ℕ)) (r : Reading) (k : ℕ) → Standing r → Ran ls r k (run_over (going (image r) k) ls)
unfolding Cut.over read_lines
run_over_ran [] r k s =
    let t : Ran [] r k (going (image r) (k + 0)) = Ran.through AllPass.none s in
    rw add-zero at t
run_over_ran (l ∷ ls) r k s =
    ran_line l ls r k s (run_over_ran ls (read_line r (columns true l)) (k + 1)) (line_fault true (columns true l)).number refl
