-- `edges::show_line` is safe and ends: a line has no more columns than bytes.
use mathlib.Core.Path.{ap}
use lib.ListN.{length}
use Rattle.line.specs.LineLaws.{columns_take}
use Rattle.edges.proofs.show_line.Goals as goal

pub slice_bounds-line_fault-end : goal.slice_bounds-line_fault-end
slice_bounds-line_fault-end g c = rw c.columns_len-n.ensures (ap length (columns_take _ _))
