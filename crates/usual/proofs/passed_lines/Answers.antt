use Rattle.std.proofs.Common.{refl, arith}
use Rattle.usual.specs.TakenLaws.{ready_size, ran_none, ran_more}
use Rattle.usual.proofs.passed_lines.Goals as goal

pub loop-run-init : goal.loop-run-init
loop-run-init c = ran_none _ _ _ _ _ c.no_run-run.ensures c.requires.0

pub loop-run-smaller : goal.loop-run-smaller
loop-run-smaller c =
    let line = c.line_passes.ensures c.if-line_passes.true in
    omega (arith, ready_size _ _ c.requires.1, line.within)

pub loop-run-preserved : goal.loop-run-preserved
loop-run-preserved c =
    let line = c.line_passes.ensures c.if-line_passes.true in
    ran_more _ _ _ _ _ _ refl (ready_size _ _ c.requires.1).0 c.loop-run.invariant line c.loop-run-test.true
