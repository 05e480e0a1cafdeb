-- `stream_c::reply_of` meets its contract.
use mathlib.Core.Path.{refl}
use Rattle.stream_c.proofs.reply_of.Goals as goal

pub returns-in-Ok : goal.returns-in-Ok
returns-in-Ok c = rw c.bare_reply.ensures (rw c.in-Ok.is refl)

pub returns-in-Err : goal.returns-in-Err
returns-in-Err c = rw c.in-Err.is refl
