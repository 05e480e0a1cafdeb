-- `values::refusal_in` meets its contract.
use mathlib.Core.Bool.{true, false}
use borrow.Author.Tests.{lt-ltb, le-ltb}
use Rattle.values.specs.Scale.{is_down}
use Rattle.values.specs.Lines.{Told}
use Rattle.values.specs.ScaleLaws.{after_some, after_few, refusal_by}
use native.Mathlib.Omega.{arith}
use Rattle.values.proofs.refusal_in.Goals as goal

pub overflow_sub-after : goal.overflow_sub-after
overflow_sub-after c = omega (arith, after_some c.requires _ _ c.exponent_in.ensures c.point_in.ensures)

pub overflow_sub-after-2 : goal.overflow_sub-after-2
overflow_sub-after-2 c = omega (arith, after_some c.requires _ _ c.exponent_in.ensures c.point_in.ensures)

pub most_size-most-requires : goal.most_size-most-requires
most_size-most-requires c = after_few c.requires _ _ c.exponent_in.ensures c.point_in.ensures

pub returns-then-most-exponent_size : goal.returns-then-most-exponent_size
unfolding is_down
returns-then-most-exponent_size c =
    let by = refusal_by c.requires _ _ c.exponent_in.ensures c.point_in.ensures in
    rw (← by _ _ c.most_size-most.ensures c.exponent_size.ensures true (lt-ltb _ _ c.if-most-exponent_size.true)) (Told.some {n = 21} (omega arith))

pub returns : goal.returns
unfolding is_down
returns c =
    let by = refusal_by c.requires _ _ c.exponent_in.ensures c.point_in.ensures in
    rw (← by _ _ c.most_size-most.ensures c.exponent_size.ensures false (le-ltb _ _ c.if-most-exponent_size.false)) Told.none
