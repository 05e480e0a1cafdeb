use mathlib.Core.Path.{◌≡◌, sym, ◌∙◌}
use mathlib.Core.List.{List}
use Prim.Native.Nat.{ℕ, ◌+◌}
use native.Mathlib.Omega.{arith}
use lib.ListN.{length, take}
use lib.Seq.{length-take-le}
use Rattle.parts.specs.MarkLaws.{block_next}
use Rattle.rewriter.proofs.RunLaws.{bared_block}
use Rattle.rewriter.proofs.past_bare.Goals as goal

pub loop-block-preserved : goal.loop-block-preserved
loop-block-preserved c =
    let at : ℕ = c.loop-block.at in
    let text : List ℕ = take c.args.closing c.args.file.now in
    let long : length text ≡ c.args.closing = length-take-le c.args.closing c.args.file.now c.requires in
    let inv = c.loop-block.invariant in
    let first = c.in-Some.ensures.steps.0 in
    let second = c.in-Some.ensures.steps.1 in
    let block = block_next text at _ _ (inv.rest ∙ first.1.0) (first.1.1 ∙ inv.size) in
    let later = block_next text (at + 1) _ _ (inv.ahead ∙ second.1.0) (second.1.1 ∙ inv.same) in
    let none = sym c.is_bare.ensures ∙ c.if-not-is_bare.false in
    record {
      bared = bared_block c.args.file.now _ _ at inv.bared (omega (arith, later.1.1, long)) c.requires _ _ block.0 later.0 none;
      size = first.0 ∙ inv.size;
      same = second.0 ∙ inv.same;
      rest = block.1.0;
      ahead = let z : at + 64 + 1 ≡ at + 1 + 64 = omega arith in rw z later.1.0;
    }
