-- `stream_c::burst` meets its contract.
use mathlib.Core.Path.{sym, ap, ◌∙◌}
use lib.ListN.{length}
use Rattle.stream.specs.Stream.{paper}
use Rattle.stream_c.specs.LentLaws.{room, burst_short, burst_ended, burst_further}
use native.Mathlib.Omega.{arith}
use Rattle.stream_c.proofs.burst.Goals as goal

pub returns-then-is_short : goal.returns-then-is_short
returns-then-is_short c = rw c.bare_reply.ensures (burst_short _ _ _ (sym c.is_short.ensures ∙ c.if-is_short.true))

pub bounds-numbers-11 : goal.bounds-numbers-11
bounds-numbers-11 c = omega (arith, (room (length c.args.numbers.now) (length c.args.line.now) (sym c.is_short.ensures ∙ c.if-is_short.false)).0)

pub returns-then-numbers-gt0 : goal.returns-then-numbers-gt0
returns-then-numbers-gt0 c =
    let long = sym c.is_short.ensures ∙ c.if-is_short.false in
    rw c.bare_reply-then-numbers-gt0.ensures (burst_ended c.args.numbers.now c.args.line.now _ long (omega (arith, c.if-numbers-gt0.true)))

pub record_in-requires : goal.record_in-requires
record_in-requires c = room _ _ (sym c.is_short.ensures ∙ c.if-is_short.false)

pub put_record-requires : goal.put_record-requires
put_record-requires c = room _ _ (sym c.is_short.ensures ∙ c.if-is_short.false)

pub returns : goal.returns
returns c =
    let args = c.args in
    let room = sym c.is_short.ensures ∙ c.if-is_short.false in
    let record-in = c.record_in.ensures in
    let after = c.after_burst-after.ensures in
    let put = c.put_record.ensures in
    let told = c.reply_of.ensures ∙ ap paper after.1 in
    burst_further args.numbers.now args.line.now _ room (omega (arith, c.if-numbers-gt0.false)) _ record-in _ after.0 put.2 _ _ put.0 put.1 _ told
