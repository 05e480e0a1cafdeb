-- `lister::judge_sets` meets its contract.
use mathlib.Core.Path.{◌≡◌, refl, ap, ◌∙◌}
use native.Mathlib.Omega.{arith}
use borrow.Author.Tests.{lt-ltb, le-ltb}
use Prim.Native.Nat.{◌-◌}
use lib.ListN.{length, take, drop}
use Rattle.laws.specs.CutLaws.{tail_part}
use Rattle.judge.specs.Judge.{judged, run_end, going}
use Rattle.judge.specs.Lines.{passed}
use Rattle.judge.specs.LinesLaws.{whole_refused, whole_going}
use Rattle.parts.specs.AcceptedLaws.{sets_opened}
use Rattle.lister.proofs.judge_sets.Goals as goal

pub returns-then-file-gt16777216 : goal.returns-then-file-gt16777216
unfolding judged
returns-then-file-gt16777216 c =
    (omega (arith, ap (λ r. r.number) c.bare_reply.ensures), c.bare_reply.ensures ∙ simp (lt-ltb _ _ c.if-file-gt16777216.true))

pub returns-in-Err : goal.returns-in-Err
unfolding judged
returns-in-Err c =
    let stopped = c.in-Err.ensures in
    let refused = whole_refused _ _ _ _ stopped.1 stopped.0 in (
      omega (arith, ap (λ r. r.number) c.reply_at.ensures, stopped.0),
      c.reply_at.ensures ∙ simp (le-ltb _ _ c.if-file-gt16777216.false) refused,
    )

pub returns-then-reply-gt0 : goal.returns-then-reply-gt0
unfolding judged
returns-then-reply-gt0 c =
    let r = c.in-Ok.read in
    let tail = tail_part c.args.file.now r.at in
    let whole = whole_going _ _ _ _ c.in-Ok.ensures (omega arith) in (
      c.if-reply-gt0.true,
      c.finish-reply.ensures ∙ simp (le-ltb _ _ c.if-file-gt16777216.false) (ap (run_end (going r.state r.lines)) tail ∙ whole),
    )

pub returns : goal.returns
unfolding judged
returns c =
    let file = c.args.file.now in
    let r = c.in-Ok.read in
    let tail = tail_part file r.at in
    let j = c.in-Ok.ensures in
    let whole = whole_going _ _ _ _ j (omega arith) in
    let is : c.finish-reply.result ≡ judged file =
    c.finish-reply.ensures ∙ simp (le-ltb _ _ c.if-file-gt16777216.false) (ap (run_end (going r.state r.lines)) tail ∙ whole) in (
      rw is at c.if-reply-gt0.false,
      sets_opened file (take (length file - r.at) (drop r.at file)) (passed r) j refl (rw c.finish-reply.ensures at c.if-reply-gt0.false),
    )
