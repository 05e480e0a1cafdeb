-- `host::answer_reals` meets its contract.
use Rattle.host.specs.AnswerLaws.{answered, answered_short, reals_none, reals_more, reals_all, reals_room, reals_short}
use native.Mathlib.Omega.{arith}
use Rattle.std.proofs.Common.{◌≡◌, ◌+◌, ◌*◌, ◌-◌}
use Rattle.host.proofs.answer_reals.Goals as goal

pub returns-then-out-xs : goal.returns-then-out-xs
returns-then-out-xs c = answered_short _ _ _ (reals_short _ _ c.if-out-xs.true) c.bare.ensures

pub loop-i-init : goal.loop-i-init
loop-i-init c = reals_none c.args.xs.now c.args.out.now

pub loop-i-preserved : goal.loop-i-preserved
loop-i-preserved c =
    let i = c.loop-i.i in
    let eight : (8 * i + 8) - 8 * i ≡ 8 = omega arith in
    let put = rw (eight, c.bits.ensures) at c.put_bytes.ensures in
    reals_more c.args.xs.now c.args.out.now c.loop-i.out _ i _ c.loop-i-test.true c.loop-i.invariant put

pub returns : goal.returns
returns c = answered _ _ _ _ (reals_room _ _ c.if-out-xs.false) c.bare-2.ensures (reals_all c.args.xs.now c.args.out.now _ _ c.loop-i-test.false c.loop-i.invariant)
