-- The writer's header judged (01, "Writer": "It is lent eleven header lines, judged as lines 1 to 11 of a set with lines counted from 1 (a twelfth
-- is 8; 1 isn't given)"). Fewer lines are 7 at lines + 1; a twelfth is 8 whatever it is, after its own 2, 3, 4.
use Rattle.std.specs.Prelude.{true, false, List, [], ◌∷◌, ◌≡◌, ℕ, zero, suc, ◌≤◌, ◌<◌, ltb, length, take}
use Rattle.laws.specs.Choice.{pick}
use Rattle.laws.specs.Cut as Cut
use Rattle.laws.specs.Cut.{cut}
use Rattle.line.specs.Line.{refusal, columns, line_fault}
use Rattle.line.specs.declared.Refusal.{Refusal}
use Rattle.record_table.specs.TypedSets.{header_lines, kind58}
use Rattle.walk.specs.declared.Place.{Place}
use Rattle.walk.specs.declared.Place.TheVariants.{Outside, Number, Plain, Typed}
use Rattle.walk.specs.declared.State.{State}
use Rattle.walk.specs.Due.{opening}
use Rattle.walk.specs.Step.{state}
use Rattle.judge.specs.declared.Reply.{Reply}
use Rattle.judge.specs.Judge.{line_step, Run, going, refused, on_outcome, reply, at_line}
use Rattle.header.specs.declared.Header.{Header}
use Rattle.std.specs.Prelude.{Result, Ok, Err}

-- a reply, and where its number is 0 the case of the 58 and how many numbers it stores
pub record Answer : Type 0 where
  pub reply : Reply
  pub case : ℕ
  pub stored : ℕ

-- what the function answers: the reply of a refusal, or what a header that passes leaves
abbrev pub result_of : Answer → Result Header Reply
result_of a = pick (ltb 0 a.reply.number) (Err a.reply) (Ok (record { case = a.case; stored = a.stored }))

abbrev pub answer_with : Reply → ℕ → ℕ → Answer
answer_with r c s = record { reply = r; case = c; stored = s }

-- a number and a place, no column
abbrev pub answer : ℕ → ℕ → ℕ → ℕ → Answer
answer n p c s = answer_with (reply n p) c s

-- refused at line n + 1
abbrev pub refused_at : ℕ → Refusal → Answer
refused_at n f = answer_with (at_line n f) 0 0

-- a 58 opens, before its line 1
abbrev pub opened : State
opened = state (Typed (opening kind58)) 1

-- the refusal of a line past the eleventh: its own, otherwise 8
abbrev pub past_fault : Refusal → Refusal
past_fault f = own f.number
  where
    own : ℕ → Refusal
    own zero = refusal 8 1
    own (suc m) = f

-- one line more
abbrev pub header_step : Run → List ℕ → Run
header_step (going s n) l = pick (ltb n header_lines) (on_outcome n (line_step s l)) (refused (at_line n (past_fault (line_fault true (columns true l)))))
header_step (refused r) l = refused r

-- what eleven lines leave due: the numbers of the data lines. No other place is left (`writer_laws`: `refused_place`)
abbrev pub leaves : Place → Answer
leaves Outside = answer 7 0 0 0
leaves Number = answer 7 0 0 0
leaves Plain = answer 7 0 0 0
leaves (Typed d) = answer 0 0 d.case d.left

-- at the end, with the bytes after the last LF
abbrev pub header_end : Run → List ℕ → Answer
header_end (going s n) [] = pick (ltb n header_lines) (refused_at n (refusal 7 1)) (leaves s.place)
header_end (going s n) (b ∷ bs) = refused_at n (line_fault false (b ∷ bs))
header_end (refused r) rest = answer_with r 0 0

unfoldable pub header_of : List ℕ → Answer
header_of bytes = Cut.judge header_step header_end (going opened 0) bytes

-- the bytes of the first eleven lines; all of them where there are fewer
pub record FirstEleven (b : List ℕ) (k : ℕ) : Type 0 where
  pub within : k ≤ length b
  pub few : length (cut (take k b)).lines ≤ header_lines
  pub full : k < length b → length (cut (take k b)).lines ≡ header_lines
