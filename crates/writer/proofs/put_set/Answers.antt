-- `writer::put_set` meets its contract.
use borrow.Author.Rules.{rules}
use Rattle.writer.specs.SetLaws.{opening_room, lines_room, data_room, closing_room, set_done}
use Rattle.writer.proofs.put_set.Goals as goal

pub put_head-opened-requires : goal.put_head-opened-requires
put_head-opened-requires c =
    let args = c.args in
    opening_room args.header.now args.case args.coefficients.now args.scales.now args.out.now c.requires.1

pub put_body-lined-requires : goal.put_body-lined-requires
put_body-lined-requires c =
    let args = c.args in
    let head = c.put_head-opened.ensures in
    (search rules, lines_room args.header.now args.case args.coefficients.now args.scales.now args.out.now c.requires.1 _ _ head.0 head.1)

pub put_data-filled-requires : goal.put_data-filled-requires
put_data-filled-requires c =
    let args = c.args in
    let head = c.put_head-opened.ensures in
    let body = c.put_body-lined.ensures in
    let room = data_room args.header.now args.case args.coefficients.now args.scales.now args.out.now c.requires.1 in
    (c.requires.0, room _ _ head.0 head.1 _ _ body.0 body.1)

pub put_line-requires : goal.put_line-requires
put_line-requires c =
    let args = c.args in
    let head = c.put_head-opened.ensures in
    let body = c.put_body-lined.ensures in
    let numbers = c.put_data-filled.ensures in
    let room = closing_room args.header.now args.case args.coefficients.now args.scales.now args.out.now c.requires.1 in
    room _ _ head.0 head.1 _ _ body.0 body.1 _ _ numbers.0 numbers.1

pub returns : goal.returns
returns c =
    let args = c.args in
    let head = c.put_head-opened.ensures in
    let body = c.put_body-lined.ensures in
    let numbers = c.put_data-filled.ensures in
    let closing = c.put_line.ensures in
    let done = set_done args.header.now args.case args.coefficients.now args.scales.now args.out.now c.requires.1 in
    done _ _ head.0 head.1 _ _ body.0 body.1 _ _ numbers.0 numbers.1 _ _ closing.0 closing.1
