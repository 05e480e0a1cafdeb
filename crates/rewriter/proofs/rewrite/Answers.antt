-- `rewriter::rewrite` meets its contract.
use Rattle.rewriter.proofs.PutLaws.{refused_both, room_known, short_both, accepted_both}
use Rattle.rewriter.proofs.rewrite.Goals as goal

pub returns-then-found-gt0 : goal.returns-then-found-gt0
returns-then-found-gt0 c = refused_both _ _ _ c.judge-found.ensures c.if-found-gt0.true

pub has_room-requires : goal.has_room-requires
has_room-requires c = rw c.judge-found.ensures at c.if-found-gt0.false

pub returns-then-not-has_room : goal.returns-then-not-has_room
returns-then-not-has_room c =
    rw c.bare_reply.ensures
    (short_both _ _ _ c.judge-found.ensures c.if-found-gt0.false _ c.has_room.ensures (c.if-not-has_room.true))

pub put_sets-n-requires : goal.put_sets-n-requires
put_sets-n-requires c =
    let args = c.args in
    room_known args.file.now args.out.now _ c.judge-found.ensures c.if-found-gt0.false _ c.has_room.ensures (c.if-not-has_room.false)

pub returns : goal.returns
returns c =
    let accepted = c.if-found-gt0.false in
    let args = c.args in
    let room = room_known args.file.now args.out.now _ c.judge-found.ensures accepted _ c.has_room.ensures (c.if-not-has_room.false) in
    let done = c.put_sets-n.ensures in
    rw (c.bare_reply-2.ensures, done.0) (accepted_both _ _ _ c.judge-found.ensures accepted room _ done.1)
