use mathlib.Core.Path.{ap}
use native.Mathlib.Omega.{arith}
use lib.ListN.{length}
use Rattle.rewriter.proofs.BodyLaws.{body_stops, body_ends, body_most}
use Rattle.rewriter.proofs.RunLaws.{run_length}
use borrow.Author.Rules.{rules}
use Rattle.rewriter.proofs.body_len.Goals as goal

pub loop-at-init : goal.loop-at-init
loop-at-init c = record { within = search rules; measured = search rules; began = search rules }

pub returns-then-file-end : goal.returns-then-file-end
returns-then-file-end c =
    let args = c.args in
    let inv = c.loop-at.invariant in
    let none = body_ends args.closing args.file.now c.loop-at.at _ inv.within c.find_end-end.ensures c.if-file-end.true in
    omega (arith, inv.measured, ap length none)

pub overflow_add-n : goal.overflow_add-n
overflow_add-n c =
    let file = c.args.file.now in
    let closing = c.args.closing in
    let more = c.loop-at-test.true in
    let inv = c.loop-at.invariant in
    let end = c.find_end-end.ensures in
    let row = run_length file c.loop-at.at _ _ _ closing more inv.within end c.if-file-end.false c.kept_len-kept.ensures c.past_run-past.ensures in
    omega (arith, inv.measured, row, body_most closing c.args.from file inv.began)

pub overflow_add-n-in-loop-at : goal.overflow_add-n-in-loop-at
overflow_add-n-in-loop-at c =
    let file = c.args.file.now in
    let closing = c.args.closing in
    let more = c.loop-at-test.true in
    let inv = c.loop-at.invariant in
    let end = c.find_end-end.ensures in
    let row = run_length file c.loop-at.at _ _ _ closing more inv.within end c.if-file-end.false c.kept_len-kept.ensures c.past_run-past.ensures in
    omega (arith, inv.measured, row, body_most closing c.args.from file inv.began)

pub overflow_add-n-in-loop-at-2 : goal.overflow_add-n-in-loop-at-2
overflow_add-n-in-loop-at-2 c =
    let file = c.args.file.now in
    let closing = c.args.closing in
    let more = c.loop-at-test.true in
    let inv = c.loop-at.invariant in
    let end = c.find_end-end.ensures in
    let row = run_length file c.loop-at.at _ _ _ closing more inv.within end c.if-file-end.false c.kept_len-kept.ensures c.past_run-past.ensures in
    omega (arith, inv.measured, row, body_most closing c.args.from file inv.began)

pub loop-at-preserved : goal.loop-at-preserved
loop-at-preserved c =
    let file = c.args.file.now in
    let closing = c.args.closing in
    let more = c.loop-at-test.true in
    let inv = c.loop-at.invariant in
    let end = c.find_end-end.ensures in
    let row = run_length file c.loop-at.at _ _ _ closing more inv.within end c.if-file-end.false c.kept_len-kept.ensures c.past_run-past.ensures in
    record { within = c.past_run-past.ensures.within; measured = omega (arith, inv.measured, row); began = search rules }

pub returns : goal.returns
returns c = omega (arith, c.loop-at.invariant.measured, ap length (body_stops c.args.closing c.args.file.now c.loop-at.at c.loop-at-test.false))
