-- `line::find_end` meets its contract.
use Rattle.std.proofs.Common.{◌≡◌, ◌+◌, drop}
use Rattle.laws.specs.Cut.{line_len}
use Rattle.line.proofs.find_end.Given as goal

abbrev pub invariant-loop-i : goal.invariant-loop-i
invariant-loop-i l = l.i + line_len (drop l.i l.file) ≡ l.from + line_len (drop l.from l.file)
