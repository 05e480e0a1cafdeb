-- `judge::judge` meets its contract.
use mathlib.Core.Path.{ap, ◌∙◌}
use native.Mathlib.Omega.{arith}
use borrow.Author.Tests.{lt-ltb, le-ltb}
use Rattle.laws.specs.CutLaws.{tail_part}
use Rattle.judge.specs.Judge.{judged, run_end, going}
use Rattle.judge.specs.LinesLaws.{whole_refused, whole_going}
use Rattle.judge.proofs.judge.Goals as goal

pub returns-then-file-gt16777216 : goal.returns-then-file-gt16777216
unfolding judged
returns-then-file-gt16777216 c = c.bare_reply.ensures ∙ simp (lt-ltb _ _ c.if-file-gt16777216.true)

pub returns-in-Err : goal.returns-in-Err
unfolding judged
returns-in-Err c =
    let stopped = c.in-Err.ensures in
    c.reply_at.ensures ∙ simp (le-ltb _ _ c.if-file-gt16777216.false) (whole_refused _ _ _ _ stopped.1 stopped.0)

pub returns-in-Ok : goal.returns-in-Ok
unfolding judged
returns-in-Ok c =
    let r = c.in-Ok.read in
    let tail = tail_part c.args.file.now r.at in
    let whole = whole_going _ _ _ _ c.in-Ok.ensures (omega arith) in
    c.finish.ensures ∙ simp (le-ltb _ _ c.if-file-gt16777216.false) (ap (run_end (going r.state r.lines)) tail ∙ whole)
