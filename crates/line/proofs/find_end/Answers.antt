use Rattle.std.proofs.Common.{⊎_elim, length, arith}
use Rattle.laws.specs.ChoiceLaws.{below_or_not}
use Rattle.laws.specs.CutLaws.{len_next, len_here, len_end}
use Rattle.line.proofs.find_end.Goals as goal

pub returns-then-file-i-eq10 : goal.returns-then-file-i-eq10
returns-then-file-i-eq10 c = omega (arith, len_here c.args.file.now c.loop-i.i c.loop-i-test.true c.if-file-i-eq10.true)

pub loop-i-preserved : goal.loop-i-preserved
loop-i-preserved c = omega (arith, len_next c.args.file.now c.loop-i.i c.loop-i-test.true c.if-file-i-eq10.false)

pub returns : goal.returns
returns c =
    let end = len_end c.args.file.now c.loop-i.i c.loop-i-test.false in
    let past = len_end c.args.file.now c.past_blocks-at.result in
    ⊎_elim
    (λ h. omega (arith, end, past (omega arith)))
    (λ h. omega (arith, end))
    (below_or_not (length c.args.file.now) c.past_blocks-at.result)
