use mathlib.Core.Path.{◌≡◌}
use Prim.Native.Nat.{◌<◌, ◌-◌, ◌+◌}
use native.Mathlib.Omega.{arith}
use Rattle.parts.specs.SkipLaws.{skipped_start, skipped_line, skipped_open, skipped_done}
use Rattle.parts.proofs.skip_lines.Goals as goal

pub loop-init : goal.loop-init
loop-init c = let z : c.args.k - 0 ≡ c.args.k = omega arith in rw z (skipped_start _ _ _ c.requires)

pub returns-then-file-end : goal.returns-then-file-end
returns-then-file-end c =
    let more : 0 < c.args.k - c.loop.counter = omega (arith, c.loop-test.true) in
    skipped_open _ _ _ _ _ c.loop.invariant _ c.find_end-end.ensures more c.if-file-end.true

pub loop-preserved : goal.loop-preserved
loop-preserved c =
    let z : c.args.k - (c.loop.counter + 1) ≡ c.args.k - c.loop.counter - 1 = omega arith in
    let more : 0 < c.args.k - c.loop.counter = omega (arith, c.loop-test.true) in
    rw z (skipped_line _ _ _ _ _ c.loop.invariant _ c.find_end-end.ensures more c.if-file-end.false)

pub returns : goal.returns
returns c =
    let inv = c.loop.invariant in
    (skipped_done _ _ _ _ _ inv (omega (arith, c.loop-test.false)), inv.within)
