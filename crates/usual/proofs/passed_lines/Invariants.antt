-- `usual::passed_lines` meets its contract.
use Rattle.std.proofs.Common.{◌-◌, length}
use Rattle.usual.specs.Taken.{Ran}
use Rattle.usual.proofs.passed_lines.Given as goal

-- the lines so far are taken
abbrev pub invariant-loop-run : goal.invariant-loop-run
invariant-loop-run l = Ran l.s l.shape.case l.at l.left l.run

abbrev pub decreases-loop-run : goal.decreases-loop-run
decreases-loop-run l = length l.s - l.run.at
