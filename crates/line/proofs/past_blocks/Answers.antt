use Rattle.std.proofs.Common.{◌≡◌, ◌+◌, ◌*◌, ◌-◌, take, drop, true, sym, ◌∙◌, arith}
use Rattle.line.specs.Line.{all_allowed}
use Rattle.line.specs.LineLaws.{line_len_blocks}
use Rattle.line.proofs.past_blocks.Goals as goal

pub loop-k-preserved : goal.loop-k-preserved
loop-k-preserved c =
    let i = c.args.from + 16 * c.loop-k.k in
    let n : (i + 16) - i ≡ 16 = omega arith in
    let h : all_allowed (take 16 (drop i c.args.file.now)) ≡ true = rw n at (sym c.all_allowed.ensures ∙ c.if-not-all_allowed.false) in
    let next : i + 16 ≡ c.args.from + 16 * (c.loop-k.k + 1) = omega arith in
    rw (← next) (sym (line_len_blocks 16 c.args.file.now i (omega (arith, c.loop-k-test.true, c.saturating_sub-blocks.ensures)) h) ∙ c.loop-k.invariant)
