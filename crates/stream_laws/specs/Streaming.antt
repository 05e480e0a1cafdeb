-- What a file judged while it arrives (02, C-11) is to say, by the bytes so far alone, however they were cut into bursts.
use Rattle.std.specs.Prelude.{List, [], ◌∷◌, ◌++◌, ℕ, ltb, length, Result, Ok, Err}
use Rattle.laws.specs.Choice.{pick}
use Rattle.laws.specs.Cut.{cut, over}
use Rattle.walk.specs.Step.{start}
use Rattle.judge.specs.declared.Reply.{Reply}
use Rattle.judge.specs.Judge.{Run, going, refused, reply, run_step}
use Rattle.stream.specs.declared.Stream.{Stream}
use Rattle.stream.specs.Stream.{open_of, Seen, past, kept, Stepped}

-- the finished lines of the bytes so far, judged
unfoldable pub finished : List ℕ → Run
finished bytes = over run_step (going start 0) (cut bytes).lines

-- what a record is to say after these bytes
unfoldable pub after : List ℕ → Seen
after bytes = pick (ltb 16777216 (length bytes)) past (kept (finished bytes) (open_of (cut bytes).rest) (length bytes))

-- "the refusal of the earliest bad line whose LF has come, otherwise 'so far' with the number of finished lines"
abbrev pub run_answer : Run → Result ℕ Reply
run_answer (going s n) = Ok n
run_answer (refused r) = Err r

-- "A burst's answer is 1 once the running length is past the limit, otherwise" that of the finished lines
abbrev pub burst_answer : List ℕ → Result ℕ Reply
burst_answer bytes = pick (ltb 16777216 (length bytes)) (Err (reply 1 0)) (run_answer (finished bytes))

-- all bursts, one after the other
unfoldable pub joined : List (List ℕ) → List ℕ
joined [] = []
joined (b ∷ bs) = b ++ joined bs

-- a record brought up to date by these bursts, in order
pub data Bursts : Stream → List (List ℕ) → Stream → Type 0 where
  none : {c : Stream} → Bursts c [] c
  more : {c d r : Stream} {b : List ℕ} {bs : List (List ℕ)} → Stepped c b d → Bursts d bs r → Bursts c (b ∷ bs) r
