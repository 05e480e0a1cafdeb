-- A file judged while it arrives (02, C-11). The standing record keeps how far the lines whose LF has come are judged, what an answer needs of the
-- open line, and how many bytes have come.
use Rattle.std.specs.Prelude.{◌≡◌, Bool, true, false, ◌&&◌, ◌||◌, List, [], ◌∷◌, ◌++◌, ◌⊎◌, ℕ, ◌+◌, ◌-◌, ◌≤◌, ◌<◌, min, leb, ltb, eqb, length, get_or, take, set, replicate, Result, Ok, Err}
use Rattle.std.proofs.Math.Seq.{paste}
use Rattle.laws.specs.Choice.{pick}
use Rattle.laws.specs.Cut.{cut, over}
use Rattle.line.specs.Line.{refusal, passed, first_bad}
use Rattle.line.specs.declared.Refusal.{Refusal}
use Rattle.walk.specs.Step.{start}
use Rattle.walk.specs.declared.State.{State}
use Rattle.judge.specs.declared.Reply.{Reply}
use Rattle.judge.specs.Judge.{Run, going, refused, reply, reply_at, at_line, run_step, run_end, line_step, on_outcome}
use Rattle.stream.specs.declared.Stream.{Stream}

-- what an answer needs of the open line: its first 80 bytes, its last one (0 where it has none), how many bytes it has, and the column of the first
-- byte not allowed (0 where all are). A line of more than 80 columns is refused whatever else it holds: 2 at that column, otherwise 3.
pub record OpenLine : Type 0 where
  pub first : List ℕ
  pub last : ℕ
  pub size : ℕ
  pub bad : ℕ

abbrev pub open_line : List ℕ → ℕ → ℕ → ℕ → OpenLine
open_line f z n k = record { first = f; last = z; size = n; bad = k }

-- of a line's bytes
unfoldable pub open_of : List ℕ → OpenLine
open_of l = open_line (take 80 l) (get_or l (length l - 1) 0) (length l) (first_bad 1 l)

-- with more bytes
unfoldable pub longer : OpenLine → List ℕ → OpenLine
longer o b =
    open_line (take 80 (o.first ++ b)) (get_or b (length b - 1) o.last) (o.size + length b)
    (pick (ltb 0 o.bad) o.bad (first_bad (o.size + 1) b))

-- how many columns it has, by its last byte, when its LF comes (true) or at the file's end: a CR that comes last belongs to the line's end, where there is an LF
unfoldable pub columns_of : Bool → ℕ → ℕ → ℕ
columns_of ended last size = pick (ended && eqb last 13) (size - 1) size

-- what it is refused for by itself, by the number of its columns and the first bad one, as `line` Line: `line_fault` says
unfoldable pub fault_of : Bool → ℕ → ℕ → Refusal
fault_of ended columns bad =
    pick (ltb 0 bad && leb bad columns) (refusal 2 bad)
    (pick (ltb 80 columns) (refusal 3 1)
    (pick ended passed (refusal 4 1)))

abbrev pub open_fault : Bool → OpenLine → Refusal
open_fault ended o = fault_of ended (columns_of ended o.last o.size) o.bad

-- its step when its LF comes: its own refusal first, then that of its place
unfoldable pub open_outcome : State → OpenLine → Result State Refusal
open_outcome s o = pick (ltb 0 (open_fault true o).number) (Err (open_fault true o)) (line_step s (take (columns_of true o.last o.size) o.first))

-- what a record says of the bytes so far: the finished lines judged, the open line (none where a line is refused) and how many bytes came; or
-- that more came than a file has, or that the record is none that bursts give
pub data Seen : Type 0 where
  in_limit : Run → OpenLine → ℕ → Seen
  past : Seen

-- a run with the open line
abbrev pub kept : Run → OpenLine → ℕ → Seen
kept (going s m) o n = in_limit (going s m) o n
kept (refused r) o n = in_limit (refused r) (open_of []) n

-- a run whose open line has its LF
abbrev pub line_end : Run → OpenLine → Run
line_end (going s n) o = on_outcome n (open_outcome s o)
line_end (refused r) o = refused r

-- with a burst's lines and its rest: the first line ends the open one
abbrev pub arrived : Run → OpenLine → List (List ℕ) → List ℕ → ℕ → Seen
arrived r o [] rest n = kept r (longer o rest) n
arrived r o (l ∷ ls) rest n = kept (over run_step (line_end r (longer o l)) ls) (open_of rest) n

-- after a burst
unfoldable pub step_of : Seen → List ℕ → Seen
step_of past b = past
step_of (in_limit r o n) b =
    pick (ltb 16777216 (n + length b)) past
    (arrived r o (cut b).lines (cut b).rest (n + length b))

-- neither 0 nor a number that a line's refusal can have, 2 to 15, 24 and 25
unfoldable pub is_strange : ℕ → Bool
is_strange n = eqb n 1 || (ltb 15 n && (ltb n 24 || ltb 25 n))

-- past the limit; so is a record with more lines than bytes, with an open line of more, or with a strange number, which no bursts give
unfoldable pub is_past : Stream → Bool
is_past c = ((ltb 16777216 c.total || ltb c.total c.lines) || ltb c.total c.held) || is_strange c.number

-- the open line that a record's bytes hold: its first ones, as far as 80, and in the 81st byte its last one
abbrev pub line_in : List ℕ → ℕ → ℕ → OpenLine
line_in p h k = open_line (take h (take 80 p)) (get_or p 80 0) h k

abbrev pub open_in : Stream → OpenLine
open_in c = line_in c.pending c.held c.column

-- the refusal that a record holds
abbrev pub refusal_in : Stream → Reply
refusal_in c = reply_at c.number (c.lines + 1) c.column

-- what a record says. Its open bytes past the held ones say nothing, nor its state and open line once a line is refused, nor all but its length and
-- its end once past the limit: no answer depends on them. What a record answers that no bursts give is not the paper's; like any other it answers 23 where
-- it is ended, otherwise 1 where it is past, otherwise the number, line and column that it holds, or "so far", with a place of at most 16,777,217.
unfoldable pub seen : Stream → Seen
seen c =
    pick (is_past c) past
    (pick (eqb c.number 0)
    (in_limit (going c.state c.lines) (open_in c) c.total)
    (in_limit (refused (refusal_in c)) (open_of []) c.total))

-- a record made by a burst
abbrev pub made : State → ℕ → ℕ → ℕ → ℕ → List ℕ → ℕ → Stream
made s n k c t p h = record { state = s; lines = n; number = k; column = c; total = t; pending = p; held = h; ended = false }

-- the record at another running length
abbrev pub at_total : Stream → ℕ → Stream
at_total c t =
    record {
      state = c.state;
      lines = c.lines;
      number = c.number;
      column = c.column;
      total = t;
      pending = c.pending;
      held = c.held;
      ended = c.ended;
    }

-- a record's bytes with more of the open line after its first h: as far as 80, and the last one
unfoldable pub pushed : List ℕ → ℕ → List ℕ → List ℕ
pushed p h b = pick (eqb (length b) 0) p (set (paste p (min h 80) b (min (80 - min h 80) (length b))) 80 (get_or b (length b - 1) 0))

-- the record that a burst leaves: by its lines after the first, from the state before them, and its rest; by its first line, which ends the open one; by
-- whether it has one
abbrev pub lines_left : State → Run → List ℕ → ℕ → Stream
lines_left s (going t n) rest total = made t n 0 (first_bad 1 rest) total (pushed (replicate 81 0) 0 rest) (length rest)
lines_left s (refused r) rest total = made s (r.place - 1) r.number r.column total (replicate 81 0) 0

abbrev pub end_left : Stream → List ℕ → Result State Refusal → List (List ℕ) → List ℕ → ℕ → Stream
end_left c p (Ok s) ls rest total = lines_left s (over run_step (going s (c.lines + 1)) ls) rest total
end_left c p (Err f) ls rest total = made c.state c.lines f.number f.column total p 0

abbrev pub burst_left : Stream → List (List ℕ) → List ℕ → ℕ → Stream
burst_left c [] rest total = made c.state c.lines 0 (longer (open_in c) rest).bad total (pushed c.pending c.held rest) (c.held + length rest)
burst_left c (l ∷ ls) rest total = end_left c (pushed c.pending c.held l) (open_outcome c.state (longer (open_in c) l)) ls rest total

-- the whole of it: past the limit, and once a line is refused, only the running length moves on; after the end was asked nothing does
unfoldable pub left_open : Stream → List ℕ → Stream
left_open c b =
    pick (is_past c || ltb 16777216 (c.total + length b)) (at_total c 16777217)
    (pick (eqb c.number 0) (burst_left c (cut b).lines (cut b).rest (c.total + length b))
    (at_total c (c.total + length b)))

unfoldable pub left : Stream → List ℕ → Stream
left c b = pick c.ended c (left_open c b)

-- a record brought up to date by a burst: untouched after the end was asked, otherwise what it says is one burst further; past the limit the running
-- length stays at 16,777,217. The whole of it is fixed.
pub record Stepped (c : Stream) (b : List ℕ) (r : Stream) : Type 0 where
  pub untouched : c.ended ≡ true → r ≡ c
  pub further : c.ended ≡ false → seen r ≡ step_of (seen c) b
  pub saturated : c.ended ≡ false → seen r ≡ past → r.total ≡ 16777217
  pub ended : r.ended ≡ c.ended
  pub whole : r ≡ left c b

-- the answer of a burst, from the record it leaves: "23, a burst after the end was asked, first of all"; "1 once the running length is past the
-- limit, otherwise the refusal of the earliest bad line whose LF has come, otherwise 'so far' with the number of finished lines"
abbrev pub so_far : Seen → Result ℕ Reply
so_far past = Err (reply 1 0)
so_far (in_limit (going s n) o t) = Ok n
so_far (in_limit (refused r) o t) = Err r

unfoldable pub answer_of : Bool → Seen → Result ℕ Reply
answer_of ended s = pick ended (Err (reply 23 0)) (so_far s)

-- the paper's number and place of an answer; "so far" is 127, which is no refusal of a file's bytes
abbrev pub paper : Result ℕ Reply → Reply
paper (Ok n) = reply 127 n
paper (Err r) = r

-- the reply at the file's end: a line without its LF is refused
abbrev pub open_end : Run → OpenLine → Reply
open_end (going s n) o = pick (eqb o.size 0) (run_end (going s n) []) (at_line n (open_fault false o))
open_end (refused r) o = r

-- the end's answer: the whole file's
abbrev pub end_reply : Seen → Reply
end_reply past = reply 1 0
end_reply (in_limit r o n) = open_end r o

-- the record after the end was asked
unfoldable pub closed : Stream → Stream
closed c =
    record {
      state = c.state;
      lines = c.lines;
      number = c.number;
      column = c.column;
      total = c.total;
      pending = c.pending;
      held = c.held;
      ended = true;
    }

-- "A fresh record starts a new file": all its numbers and bytes are 0
unfoldable pub fresh_record : Stream
fresh_record = record { state = start; lines = 0; number = 0; column = 0; total = 0; pending = replicate 81 0; held = 0; ended = false }

-- what is seen after bytes whose lines come after n others
unfoldable pub judged_on : State → ℕ → List ℕ → ℕ → Seen
judged_on s n l total = kept (over run_step (going s n) (cut l).lines) (open_of (cut l).rest) total

-- what is seen after a burst on a record that is neither past the limit nor refused
abbrev pub arrived_on : Stream → List ℕ → ℕ → Seen
arrived_on c b total = arrived (going c.state c.lines) (open_in c) (cut b).lines (cut b).rest total

-- and the records that are left
abbrev pub lines_on : State → ℕ → List ℕ → ℕ → Stream
lines_on s n l total = lines_left s (over run_step (going s n) (cut l).lines) (cut l).rest total

abbrev pub left_on : Stream → List ℕ → ℕ → Stream
left_on c b total = burst_left c (cut b).lines (cut b).rest total

-- the running length with m bytes more, or a number past the limit
pub record Running (c : Stream) (m r : ℕ) : Type 0 where
  pub within : r ≤ 16777216 → (is_past c ≡ false) × (r ≡ c.total + m)
  pub beyond : 16777216 < r → (is_past c ≡ true) ⊎ (16777216 < c.total + m)
  pub stops : 16777216 < r → r ≡ 16777217

-- bytes pushed onto the first h of a record's line
pub record Pushed (line : List ℕ) (h : ℕ) (b line' : List ℕ) : Type 0 where
  pub wide : length line' ≡ 81
  pub first : take (h + length b) (take 80 line') ≡ take 80 (take h (take 80 line) ++ b)
  pub last : get_or line' 80 0 ≡ get_or b (length b - 1) (get_or line 80 0)
  pub whole : line' ≡ pushed line h b
