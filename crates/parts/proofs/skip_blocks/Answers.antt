use mathlib.Core.Path.{ap, ◌∙◌}
use native.Mathlib.Omega.{arith}
use Rattle.parts.specs.Mark.{ends_in}
use Rattle.parts.specs.SkipLaws.{skipped_block}
use Rattle.parts.specs.MarkLaws.{block_next}
use Rattle.parts.proofs.skip_blocks.Goals as goal

pub loop-block-preserved : goal.loop-block-preserved
loop-block-preserved c =
    let inv = c.loop-block.invariant in
    let steps = c.in-Some.ensures.steps in
    let block = block_next c.args.file.now c.loop-block.at _ _ (inv.rest ∙ steps.1.0) (steps.1.1 ∙ inv.size) in
    let ends = c.from-ends.ensures ∙ c.ends_in.ensures ∙ ap ends_in block.0 in
    record {
      skipped = skipped_block _ _ _ _ _ inv.skipped 64 _ block.1.1 ends c.if-left-ends.false;
      size = steps.0 ∙ inv.size;
      rest = block.1.0;
    }
