-- `judge::judge_lines` meets its contract.
use Prim.Native.Nat.{◌-◌}
use lib.ListN.{length}
use Rattle.judge.specs.LinesLaws.{Reached, to_go}
use Rattle.judge.proofs.judge_lines.Given as goal

abbrev pub invariant-loop-read : goal.invariant-loop-read
invariant-loop-read l = Reached l.bytes l.fn.state l.lines l.at l.read.state l.read.lines l.read.at

abbrev pub decreases-loop-read : goal.decreases-loop-read
decreases-loop-read l = to_go (length l.bytes - l.read.at) l.wait
