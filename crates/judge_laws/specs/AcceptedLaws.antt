-- The judge's reply is 0 exactly when the reader accepts the bytes.
use Rattle.std.specs.Prelude.{◌≡◌, Bool, List, [], ◌∷◌, ℕ, ◌+◌, ◌≤◌, length}
use Rattle.std.proofs.Math.Path.{refl}
use Rattle.std.proofs.Common.{sym, ◌∙◌, zero-add, arith, ltb-false, le-ltb, ne_eqb}
use Rattle.std.proofs.Math.Bool.{true, false}
use Prim.{tt}
use Rattle.std.proofs.Math.Dec.{ltb}
use Rattle.laws.specs.Choice.{pick}
use Rattle.laws.specs.ChoiceLaws.{false_not_true}
use Rattle.laws.specs.Cut as Cut
use Rattle.line.specs.Line.{line_fault}
use Rattle.line.specs.LineLaws.{line_fault_sound}
use Rattle.walk.specs.Step.{start}
use Rattle.judge.specs.Judge.{reply, Run, going, run_step, run_end, judged}
use Rattle.line_laws.specs.Ends.{AllPass}
use Rattle.judge_laws.specs.ListReader.{Reading, outside, number, plain, typed, bad}
use Rattle.judge_laws.specs.Image.{Standing, image}
use Rattle.judge_laws.specs.Ran.{read_over, Ran}
use Rattle.judge_laws.specs.RanLaws.{line_fault_zero, run_over_ran}
use Rattle.judge_laws.specs.Accepted.{Accepted}

-- a reading that stands is not refused
standing_not_bad : {r : Reading} → Standing r → r ≡ bad → ⊥
standing_not_bad s e = rw e at s

module _ (bytes : List ℕ) where
  abbrev raw : List (List ℕ)
  raw = (Cut.cut bytes).lines

  -- a file that ends with a line is accepted only outside sets, with some set read
  at_end_accepted :
      (r : Reading) →
      read_over (outside []) raw ≡ r →
      Standing r →
      length bytes ≤ 16777216 →
      (Cut.cut bytes).rest ≡ [] →
      AllPass raw →
      (run_end (going (image r) (0 + length raw)) []).number ≤ 0 →
      Accepted bytes (length raw)
  at_end_accepted (outside []) e s b z a h = absurd (omega arith)
  at_end_accepted (outside (x ∷ sets)) e s b z a h =
      record { short = b; ended = z; pass = a; lines = refl; sets = x ∷ sets; read = e; some = omega arith }
  at_end_accepted (number acc) e s b z a h = absurd (omega arith)
  at_end_accepted (plain acc v iss) e s b z a h = absurd (omega arith)
  at_end_accepted (typed acc v iss d) e s b z a h = absurd (omega arith)
  at_end_accepted bad e s b z a h = absurd s

  -- bytes after the last LF are never accepted
  run_end_accepted :
      {run : Run} (rest : List ℕ) →
      Ran raw (outside []) 0 run →
      length bytes ≤ 16777216 →
      (Cut.cut bytes).rest ≡ rest →
      (run_end run rest).number ≤ 0 →
      Accepted bytes (length raw)
  run_end_accepted [] (Ran.through a s) b e h = at_end_accepted (read_over (outside []) raw) refl s b e a h
  run_end_accepted (c ∷ cs) (Ran.through a s) b e h =
      let z : (line_fault false (c ∷ cs)).number ≡ 0 = omega (arith, h) in
      false_not_true (line_fault_sound false (c ∷ cs) (line_fault_zero false (c ∷ cs) z)).0
  run_end_accepted rest (Ran.stopped {p} z f) b e h = absurd (omega (arith, z, h))

  accepted_run_end : {run : Run} → Ran raw (outside []) 0 run → {n : ℕ} → Accepted bytes n → run_end run [] ≡ reply 0 n
  accepted_run_end (Ran.through a s) c =
      rw (c.read, ne_eqb (length c.sets) 0 (λ z. omega (arith, c.some)), zero-add, c.lines) refl
  accepted_run_end (Ran.stopped z f) c = absurd (standing_not_bad tt (sym c.read ∙ f c.pass))

  -- the judge's run over the whole file
  file_ran : Ran raw (outside []) 0 (Cut.over run_step (going start 0) raw)
  file_ran = run_over_ran raw (outside []) 0 tt

  -- by the reply's number alone
  pub zero_accepted : (judged bytes).number ≤ 0 → Accepted bytes (length raw)
  unfolding judged Cut.judge
  zero_accepted h = by_size (ltb 16777216 (length bytes)) refl h
    where
      by_size :
          (t : Bool) →
          ltb 16777216 (length bytes) ≡ t →
          (pick t (reply 1 0) (Cut.judge run_step run_end (going start 0) bytes)).number ≤ 0 →
          Accepted bytes (length raw)
      by_size true e h = absurd (omega arith)
      by_size false e h = run_end_accepted (Cut.cut bytes).rest file_ran (ltb-false 16777216 (length bytes) e) refl h

  pub accepted_judged : {n : ℕ} → Accepted bytes n → judged bytes ≡ reply 0 n
  unfolding judged Cut.judge
  accepted_judged a = rw (le-ltb 16777216 (length bytes) a.short, a.ended) (accepted_run_end file_ran a)
