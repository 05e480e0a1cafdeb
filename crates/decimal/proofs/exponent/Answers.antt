-- `decimal::exponent` meets its contract.
use native.Mathlib.Omega.{arith}
use Rattle.decimal.specs.CountLaws.{count_in_least, count_in_most}
use Rattle.decimal.specs.SignLaws.{exponent_zero, sum_first, exponent_is}
use Rattle.decimal.proofs.exponent.Goals as goal

pub returns-then-size-eq0 : goal.returns-then-size-eq0
returns-then-size-eq0 c = exponent_zero _ _ c.if-size-eq0.true

pub overflow_sub-more : goal.overflow_sub-more
overflow_sub-more c = omega (arith, c.count-more.ensures, count_in_least 19 c.args.size)

pub overflow_cast-result : goal.overflow_cast-result
overflow_cast-result c = record { sfits = omega (arith, c.count-more.ensures, count_in_most 19 c.args.size) }

pub overflow_add-result : goal.overflow_add-result
overflow_add-result c = rw c.from.ensures (sum_first _ _ _ c.ranges.scale c.if-size-eq0.false c.count-more.ensures)

pub returns : goal.returns
returns c = rw c.from.ensures (exponent_is _ _ _ c.ranges.scale c.if-size-eq0.false c.count-more.ensures)
