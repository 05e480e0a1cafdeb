-- `rewriter::put_head` meets its contract.
use Rattle.rewriter.proofs.PutLaws.{delimiter_room, number_room, head_done}
use Rattle.rewriter.proofs.put_head.Goals as goal

pub put_line-past-requires : goal.put_line-past-requires
put_line-past-requires c = delimiter_room _ _ c.args.out.now c.requires

pub put_line-requires : goal.put_line-requires
put_line-requires c = number_room _ _ c.args.out.now c.requires _ _ _ c.put_line-past.ensures.0 c.put_line-past.ensures.1 c.plain_number.ensures

pub returns : goal.returns
returns c =
    let first = c.put_line-past.ensures in
    let second = c.put_line.ensures in
    head_done _ _ c.args.out.now c.requires _ _ _ first.0 first.1 c.plain_number.ensures _ _ second.0 second.1
