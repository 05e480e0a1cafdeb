use mathlib.Core.Path.{◌≡◌, sym, ap, ◌∙◌}
use Prim.Native.Nat.{ℕ, ◌+◌}
use native.Mathlib.Omega.{arith}
use Rattle.parts.specs.Mark.{ends_in}
use Rattle.parts.specs.MarkLaws.{block_next, passed_block, quiet_blocks}
use Rattle.parts.proofs.past_quiet.Goals as goal

pub loop-block-preserved : goal.loop-block-preserved
loop-block-preserved c =
    let file = c.args.file.now in
    let at : ℕ = c.loop-block.at in
    let inv = c.loop-block.invariant in
    let first = c.in-Some.ensures.steps.0 in
    let second = c.in-Some.ensures.steps.1 in
    let block = block_next file at _ _ (inv.rest ∙ first.1.0) (first.1.1 ∙ inv.size) in
    let later = block_next file (at + 5) _ _ (inv.ahead ∙ second.1.0) (second.1.1 ∙ inv.same) in
    let none = quiet_blocks _ _ _ _ block.0 later.0 (sym c.is_quiet.ensures ∙ c.if-not-is_quiet.false) in
    let ends = c.from-lines.ensures ∙ c.ends_in.ensures ∙ ap ends_in block.0 in
    record {
      passed = passed_block file _ _ _ _ _ inv.passed (omega (arith, later.1.1)) none ends;
      size = first.0 ∙ inv.size;
      same = second.0 ∙ inv.same;
      rest = block.1.0;
      ahead = let z : at + 64 + 5 ≡ at + 5 + 64 = omega arith in rw z later.1.0;
    }
