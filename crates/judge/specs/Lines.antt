-- Finished lines judged: what the loop over lines answers.
use Rattle.std.specs.Prelude.{◌≡◌, List, ℕ, ◌+◌, ◌-◌, ◌≤◌, ◌<◌, eqb, length, drop, Result, MatchResult}
use Rattle.laws.specs.Choice.{pick}
use Rattle.laws.specs.Cut.{cut, over}
use Rattle.walk.specs.declared.State.{State}
use Rattle.judge.specs.declared.Lines.{Lines}
use Rattle.judge.specs.declared.Stopped.{Stopped}
use Rattle.judge.specs.Judge.{Run, going, refused, reply_at, run_step}

-- an answer by number: while it is 0, no line is refused; otherwise the line after these is, with that number, at that column
pub record Account : Type 0 where
  pub state : State
  pub lines : ℕ
  pub number : ℕ
  pub column : ℕ
  pub at : ℕ

-- a run, from the fields of a record
abbrev pub run_of : State → ℕ → ℕ → ℕ → Run
run_of s n k c = pick (eqb k 0) (going s n) (refused (reply_at k (n + 1) c))

-- the answer of these fields; so far, none refused
abbrev pub lines_at : State → ℕ → ℕ → ℕ → ℕ → Account
lines_at s n k c at = record { state = s; lines = n; number = k; column = c; at = at }

abbrev pub lines_to : State → ℕ → ℕ → Account
lines_to s n at = lines_at s n 0 0 at

abbrev pub so_far : State → ℕ → ℕ → Lines
so_far s n at = record { state = s; lines = n; at = at }

-- the answer of lines that all pass, and of those before a refused one
abbrev pub passed : Lines → Account
passed r = lines_to r.state r.lines r.at

abbrev pub stopped : Stopped → Account
stopped e = lines_at e.read.state e.read.lines e.fault.number e.fault.column e.read.at

-- the finished lines of the bytes from a place on, after n others
pub record LinesJudged (s : State) (n : ℕ) (b : List ℕ) (at : ℕ) (r : Account) : Type 0 where
  pub run : run_of r.state r.lines r.number r.column ≡ over run_step (going s n) (cut (drop at b)).lines
  pub rest : r.number ≡ 0 → drop r.at b ≡ (cut (drop at b)).rest
  pub within : r.at ≤ length b
  pub few : r.lines ≤ n + (length b - at)
  pub fewer : 0 < r.number → r.lines < n + (length b - at)

-- what the loop answers: none of the lines is refused, or the one after those read is, with a number above zero
abbrev pub LinesAnswered : State → ℕ → List ℕ → ℕ → Result Lines Stopped → Type 0
LinesAnswered s n b at x = MatchResult x (λ r. LinesJudged s n b at (passed r)) (λ e. (0 < e.fault.number) × LinesJudged s n b at (stopped e))
