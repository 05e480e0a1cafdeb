-- `usual_columns::Tables::put_columns` meets its contract.
use Rattle.std.proofs.Common.{◌-◌, replicate}
use Rattle.usual_columns.specs.Cells.{Grown}
use Rattle.usual_columns.proofs.Tables.put_columns.Given as goal

-- the columns before i take it
abbrev pub invariant-loop-i : goal.invariant-loop-i
invariant-loop-i l = Grown l.at (replicate (l.i - l.at) l.cell) l.initial.self l.self
