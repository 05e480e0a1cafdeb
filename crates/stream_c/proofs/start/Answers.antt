-- `stream_c::start` meets its contract.
use mathlib.Core.Path.{sym, ◌∙◌}
use Rattle.stream_c.specs.LentLaws.{room, start_short, start_lays}
use Rattle.stream_c.proofs.start.Goals as goal

pub returns-then-is_short : goal.returns-then-is_short
returns-then-is_short c = rw c.bare_reply.ensures (start_short _ _ (sym c.is_short.ensures ∙ c.if-is_short.true))

pub put_record-requires : goal.put_record-requires
put_record-requires c = room _ _ (sym c.is_short.ensures ∙ c.if-is_short.false)

pub returns : goal.returns
returns c =
    let put = c.put_record.ensures in
    rw c.bare_reply-2.ensures (start_lays _ _ (sym c.is_short.ensures ∙ c.if-is_short.false) _ c.fresh.ensures _ _ put.0 put.1)
