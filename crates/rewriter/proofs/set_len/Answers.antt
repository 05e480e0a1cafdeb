-- `rewriter::set_len` meets its contract.
use lib.ListN.{length}
use Rattle.parts.specs.CountedLaws.{counted_within}
use Rattle.rewriter.proofs.BodyLaws.{body_most, last_most}
use Rattle.rewriter.proofs.PutLaws.{set_at_length}
use native.Mathlib.Omega.{arith}
use Rattle.rewriter.proofs.set_len.Goals as goal

pub last_len-requires : goal.last_len-requires
last_len-requires c =
    let at-counted = c.counted_at-kept in
    let pre = c.requires in
    (counted_within _ _ _ _ at-counted.ensures pre.1.1.0 pre.1.1.1, pre.0)

pub overflow_add-result : goal.overflow_add-result
overflow_add-result c =
    let at-counted = c.counted_at-kept in
    let args = c.args in
    let line = counted_within args.file.now args.set at-counted.result (length args.file.now) at-counted.ensures c.requires.1.1.0 c.requires.1.1.1 in
    let front = body_most at-counted.result.line args.set.body args.file.now c.requires.1.0 in
    let last = last_most args.file.now at-counted.result.past args.set.closing at-counted.result.line line in
    omega (arith, c.requires.0, c.body_len-front.ensures, c.last_len.ensures, front, last)

pub overflow_add-result-2 : goal.overflow_add-result-2
overflow_add-result-2 c =
    let at-counted = c.counted_at-kept in
    let args = c.args in
    let line = counted_within args.file.now args.set at-counted.result (length args.file.now) at-counted.ensures c.requires.1.1.0 c.requires.1.1.1 in
    let front = body_most at-counted.result.line args.set.body args.file.now c.requires.1.0 in
    let last = last_most args.file.now at-counted.result.past args.set.closing at-counted.result.line line in
    omega (arith, c.requires.0, c.body_len-front.ensures, c.last_len.ensures, front, last)

pub returns : goal.returns
returns c = omega (arith, set_at_length c.args.file.now c.args.set _ c.counted_at-kept.ensures, c.body_len-front.ensures, c.last_len.ensures)
