-- `stream_c::end` meets its contract.
use mathlib.Core.Path.{sym, ◌∙◌}
use lib.ListN.{length}
use Rattle.stream_c.specs.LentLaws.{room, end_short, end_says}
use native.Mathlib.Omega.{arith}
use Rattle.stream_c.proofs.end.Goals as goal

pub returns-then-is_short : goal.returns-then-is_short
returns-then-is_short c = rw c.bare_reply.ensures (end_short _ _ (sym c.is_short.ensures ∙ c.if-is_short.true))

pub record_in-requires : goal.record_in-requires
record_in-requires c = room _ _ (sym c.is_short.ensures ∙ c.if-is_short.false)

pub bounds-numbers-11 : goal.bounds-numbers-11
bounds-numbers-11 c = omega (arith, (room (length c.args.numbers.now) (length c.args.line.now) (sym c.is_short.ensures ∙ c.if-is_short.false)).0)

pub returns : goal.returns
returns c = end_says _ _ (sym c.is_short.ensures ∙ c.if-is_short.false) _ c.record_in.ensures _ c.reply-found.ensures
