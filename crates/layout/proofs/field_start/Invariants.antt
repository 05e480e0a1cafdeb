-- `layout::field_start` meets its contract.
use mathlib.Core.Path.{◌≡◌}
use Rattle.layout.specs.Columns.{field_start}
use Rattle.layout.specs.Layout.{layout_of}
use Rattle.layout.proofs.field_start.Given as goal

-- the column where the next field begins is reached
abbrev pub invariant-loop-w : goal.invariant-loop-w
invariant-loop-w l = l.at ≡ field_start (layout_of l.case).widths l.w-index
