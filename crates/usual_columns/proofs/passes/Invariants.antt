-- `usual_columns::passes` meets its contract.
use Rattle.std.proofs.Common.{◌≡◌, true}
use Rattle.usual_columns.specs.Cells.{Passed}
use Rattle.usual_columns.proofs.passes.Given as goal

-- where all bytes were taken so far, the first i are
abbrev pub invariant-loop-i : goal.invariant-loop-i
invariant-loop-i l = l.ok ≡ true → Passed l.tables l.s l.at l.i
