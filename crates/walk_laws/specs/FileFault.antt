-- Why a file is refused, and where (01, "What comes back": "The refusal is that of the earliest bad line"): the lines before are taken, one after
-- the other, and something is wrong with the next one, or with the file's end.
use Rattle.std.specs.Prelude.{◌≡◌, false, List, [], ◌∷◌, ℕ, ◌<◌, length, take, drop}
use Rattle.laws.specs.Cut.{cut}
use Rattle.line.specs.Line.{refusal}
use Rattle.line.specs.declared.Refusal.{Refusal}
use Rattle.walk.specs.Step.{start}
use Rattle.walk.specs.declared.Place.TheVariants.{Outside}
use Rattle.walk.specs.declared.State.{State}
use Rattle.std.specs.Prelude.{Ok}
use Rattle.judge.specs.declared.Reply.{Reply}
use Rattle.judge.specs.Judge.{reply, line_step, at_line}
use Rattle.line_laws.specs.Fault.{LineFault}
use Rattle.walk_laws.specs.Fault.{Fault}

-- lines that are taken, from a state to the one that they lead to
pub data Taken : State → List (List ℕ) → State → Type 0 where
  none : {s : State} → Taken s [] s
  more : {s t u : State} {l : List ℕ} {ls : List (List ℕ)} → line_step s l ≡ Ok t → Taken t ls u → Taken s (l ∷ ls) u

-- the refusal of a file, after this many lines that are taken
pub data FileFault (bytes : List ℕ) : ℕ → Refusal → Type 0 where
  -- of the next line
  line : {s : State} {f : Refusal} (k : ℕ) (l : List ℕ) (ls : List (List ℕ)) → Taken start (take k (cut bytes).lines) s → drop k (cut bytes).lines ≡ l ∷ ls
      → Fault s l f → FileFault bytes k f
  -- of the bytes after the last LF
  unended : {s : State} {f : Refusal} → Taken start (cut bytes).lines s → 0 < length (cut bytes).rest → LineFault false (cut bytes).rest f
      → FileFault bytes (length (cut bytes).lines) f
  -- "file ends inside a set"
  inside : {s : State} → Taken start (cut bytes).lines s → (cut bytes).rest ≡ [] → (s.place ≡ Outside → ⊥) → FileFault bytes (length (cut bytes).lines) (refusal 7 1)

-- the judge's replies to a file that is not too long: accepted, the refusal that names no line, and the refusal of a line
pub data Judged (bytes : List ℕ) : Reply → Type 0 where
  accepted : Judged bytes (reply 0 (length (cut bytes).lines))
  -- "no set in the file and no bad line"
  no_set : Judged bytes (reply 16 0)
  at_line_lem : {k : ℕ} {f : Refusal} → FileFault bytes k f → Judged bytes (at_line k f)
