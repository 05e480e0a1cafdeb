-- `rewriter::put_set` meets its contract.
use Rattle.parts.specs.CountedLaws.{counted_within}
use Rattle.rewriter.proofs.PutLaws.{head_room, front_room, last_room, closing_room, set_done}
use Rattle.rewriter.proofs.put_set.Goals as goal

pub put_head-opened-requires : goal.put_head-opened-requires
put_head-opened-requires c = head_room _ _ _ _ c.counted_at-kept.ensures c.args.out.now c.requires.1

pub put_body-last-requires : goal.put_body-last-requires
put_body-last-requires c =
    let head = c.put_head-opened.ensures in
    (c.requires.0.0, front_room _ _ _ _ c.counted_at-kept.ensures c.args.out.now c.requires.1 _ _ head.0 head.1)

pub put_last-closed-requires : goal.put_last-closed-requires
put_last-closed-requires c =
    let head = c.put_head-opened.ensures in
    let body = c.put_body-last.ensures in
    let counted = c.counted_at-kept.ensures in (
      counted_within _ _ _ _ counted c.requires.0.1.0 c.requires.0.1.1,
      last_room _ _ _ _ counted c.args.out.now c.requires.1 _ _ head.0 head.1 _ _ body.0 body.1,
    )

pub put_line-requires : goal.put_line-requires
put_line-requires c =
    let head = c.put_head-opened.ensures in
    let body = c.put_body-last.ensures in
    let last = c.put_last-closed.ensures in
    let counted = c.counted_at-kept.ensures in
    closing_room _ _ _ _ counted c.args.out.now c.requires.1 _ _ head.0 head.1 _ _ body.0 body.1 _ _ last.0 last.1

pub returns : goal.returns
returns c =
    let head = c.put_head-opened.ensures in
    let body = c.put_body-last.ensures in
    let last = c.put_last-closed.ensures in
    let line = c.put_line.ensures in
    let counted = c.counted_at-kept.ensures in
    set_done _ _ _ _ counted c.args.out.now c.requires.1 _ _ head.0 head.1 _ _ body.0 body.1 _ _ last.0 last.1 _ _ line.0 line.1
