-- `lister::list` meets its contract.
use mathlib.Core.Path.{refl}
use Rattle.judge.specs.JudgeLaws.{judged_short}
use Rattle.lister.specs.ListedLaws.{accepted_complete}
use Rattle.lister.specs.ListerLaws.{list_refused, list_short, list_done}
use Rattle.lister.proofs.list.Goals as goal

pub returns-in-Err : goal.returns-in-Err
returns-in-Err c = list_refused _ _ _ c.in-Err.ensures.1 c.in-Err.ensures.0

pub returns-then-rows-sets : goal.returns-then-rows-sets
returns-then-rows-sets c =
    let counted = c.in-Ok.ensures in
    rw c.bare_reply.ensures (list_short _ _ _ refl counted.0 _ counted.1 c.if-rows-sets.true)

pub put_rows-requires : goal.put_rows-requires
put_rows-requires c =
    let counted = c.in-Ok.ensures in
    let file = c.args.file.now in
    (judged_short file counted.0, (counted.1, (accepted_complete file counted.0, c.if-rows-sets.false)))

pub returns : goal.returns
returns c =
    let counted = c.in-Ok.ensures in
    let done = list_done _ _ _ refl counted.0 _ counted.1 _ c.if-rows-sets.false in
    rw c.bare_reply-2.ensures (done c.put_rows.ensures)
