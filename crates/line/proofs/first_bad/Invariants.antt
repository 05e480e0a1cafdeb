-- `line::first_bad` meets its contract.
use Rattle.std.proofs.Common.{◌≡◌, ◌+◌, drop}
use Rattle.line.specs.Line.{first_bad}
use Rattle.line.proofs.first_bad.Given as goal

abbrev pub invariant-loop-i : goal.invariant-loop-i
invariant-loop-i l = first_bad (l.i + 1) (drop l.i l.s) ≡ first_bad 1 l.s
