-- The judge's reply for every string of bytes (01, "What comes back": the table's rows 0 to 16). "The refusal is that of the earliest
-- bad line. On one line, 2, 3, 4 come first in that order, then the rule of the line's place in its set." 02, C-14: "Every refusal of a line now
-- carries the column too .. Any other reply of number and place carries 0."
use Rattle.std.specs.Prelude.{true, false, List, [], ◌∷◌, ℕ, zero, suc, ◌+◌, ltb, eqb, length}
use Rattle.laws.specs.Choice.{pick}
use Rattle.laws.specs.Cut as Cut
use Rattle.line.specs.Line.{columns, line_fault, filled}
use Rattle.line.specs.declared.Refusal.{Refusal}
use Rattle.walk.specs.declared.Place.{Place}
use Rattle.walk.specs.declared.Place.TheVariants.{Outside, Number, Plain, Typed}
use Rattle.walk.specs.declared.State.{State}
use Rattle.std.specs.Prelude.{Result, Ok, Err}
use Rattle.walk.specs.Step.{start, step_of}
use Rattle.judge.specs.declared.Reply.{Reply}

-- a number, a place and a column
abbrev pub reply_at : ℕ → ℕ → ℕ → Reply
reply_at n p c = record { number = n; place = p; column = c }

-- a number and a place, no column
abbrev pub reply : ℕ → ℕ → Reply
reply n p = reply_at n p 0

-- a line's own refusal first, then that of its place
abbrev pub line_outcome : State → Refusal → List ℕ → Result State Refusal
line_outcome s f cs = own f.number
  where
    own : ℕ → Result State Refusal
    own zero = step_of s (filled cs)
    own (suc n) = Err f

-- a line that has its LF, by the bytes before it
unfoldable pub line_step : State → List ℕ → Result State Refusal
line_step s l = line_outcome s (line_fault true (columns true l)) (columns true l)

-- the refusal of line n + 1
abbrev pub at_line : ℕ → Refusal → Reply
at_line n f = reply_at f.number (n + 1) f.column

-- how far a file is judged: still going, after so many lines, or refused
pub data Run : Type 0 where
  going : State → ℕ → Run
  refused : Reply → Run

abbrev pub on_outcome : ℕ → Result State Refusal → Run
on_outcome n (Ok s) = going s (n + 1)
on_outcome n (Err f) = refused (at_line n f)

abbrev pub run_step : Run → List ℕ → Run
run_step (going s n) l = on_outcome n (line_step s l)
run_step (refused r) l = refused r

-- at the end of a file whose last line has its LF: 7, in column 1 of the line after it, where "file ends inside a set", 16 for "no set in the file
-- and no bad line"
abbrev pub at_end : Place → ℕ → ℕ → Reply
at_end Outside sets n = pick (eqb sets 0) (reply 16 0) (reply 0 n)
at_end Number sets n = reply_at 7 (n + 1) 1
at_end Plain sets n = reply_at 7 (n + 1) 1
at_end (Typed d) sets n = reply_at 7 (n + 1) 1

-- the end of a file, with the bytes after its last LF
abbrev pub run_end : Run → List ℕ → Reply
run_end (going s n) [] = at_end s.place s.sets n
run_end (going s n) (b ∷ bs) = at_line n (line_fault false (b ∷ bs))
run_end (refused r) rest = r

-- 1 "before all others"
unfoldable pub judged : List ℕ → Reply
judged bytes = pick (ltb 16777216 (length bytes)) (reply 1 0) (Cut.judge run_step run_end (going start 0) bytes)
