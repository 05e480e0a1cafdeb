-- `edges::show_stored` is safe and ends: the column past a field is at most 80.
use Prim.Native.Nat.{◌+◌, ◌≤◌}
use native.Mathlib.Omega.{arith}
use Rattle.layout.specs.Columns.{field_past}
use Rattle.layout.specs.LayoutLaws.{field_past_inside}
use Rattle.edges.proofs.show_stored.Goals as goal

pub overflow_add-past : goal.overflow_add-past
unfolding field_past
overflow_add-past g c =
    let inside : c.field_start-first.result + c.field_width.result ≤ 80 = rw (c.field_start-first.ensures, c.field_width.ensures) (field_past_inside _ _) in
    omega arith
