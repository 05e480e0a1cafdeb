-- `header::judge_header` meets its contract.
use mathlib.Core.Path.{sym, ap, ◌∙◌}
use mathlib.Core.Bool.{true}
use native.Mathlib.Omega.{arith}
use Prim.Native.Nat.{◌-◌}
use lib.ListN.{take, drop}
use Rattle.laws.specs.CutLaws.{judge_last, tail_part}
use Rattle.line.specs.Line.{columns, line_fault}
use Rattle.judge.specs.Judge.{going}
use Rattle.judge.specs.Lines.{passed, stopped, LinesJudged}
use Rattle.header.specs.Header.{result_of, opened, header_step, header_end}
use Rattle.header.specs.HeaderLaws.{opened_58, refused_is, past_fault_some, header_refused, header_going, header_past, at_most, eleven_most, eleven}
use Rattle.header.proofs.judge_header.Goals as goal

pub returns-in-Err : goal.returns-in-Err
returns-in-Err c =
    let header = c.args.header.now in
    let past = c.past_eleven-past in
    let stop = c.in-Err.stop in
    let sure = c.in-Err.ensures.0 in
    let judged : LinesJudged opened 0 (take past.result header) 0 (stopped stop) = rw (c.opened.ensures, opened_58) at c.in-Err.ensures.1 in
    rw c.reply_at.ensures (refused_is _ _ sure (header_refused header past.result past.ensures _ judged sure))

pub returns-then-end-header : goal.returns-then-end-header
returns-then-end-header c =
    let header = c.args.header.now in
    let past = c.past_eleven-past in
    let read = c.in-Ok.read in
    let judged : LinesJudged opened 0 (take past.result header) 0 (passed read) = rw (c.opened.ensures, opened_58) at c.in-Ok.ensures in
    let end = c.find_end-end.ensures in
    let most = at_most header past.result past.ensures _ judged (omega arith) in
    let full = eleven header past.result past.ensures _ judged (omega arith) _ end c.if-end-header.true in
    let whole = header_going header past.result past.ensures _ judged (omega arith) in
    let refused = header_past read.state read.lines header _ _ most end c.if-end-header.true _ c.past_fault-fault.ensures full in
    let line = take (c.find_end-end.result - read.at) (drop read.at header) in
    let some = past_fault_some (line_fault true (columns true line)) in
    rw c.reply_at-then-end-header.ensures (refused_is _ _ (rw c.past_fault-fault.ensures some) (refused ∙ whole))

pub finish-requires : goal.finish-requires
finish-requires c =
    let header = c.args.header.now in
    let past = c.past_eleven-past in
    let read = c.in-Ok.read in
    let judged : LinesJudged opened 0 (take past.result header) 0 (passed read) = rw (c.opened.ensures, opened_58) at c.in-Ok.ensures in
    eleven_most header past.result past.ensures _ judged (omega arith)

pub returns : goal.returns
returns c =
    let header = c.args.header.now in
    let past = c.past_eleven-past in
    let read = c.in-Ok.read in
    let judged : LinesJudged opened 0 (take past.result header) 0 (passed read) = rw (c.opened.ensures, opened_58) at c.in-Ok.ensures in
    let end = c.find_end-end.ensures in
    let most = at_most header past.result past.ensures _ judged (omega arith) in
    let whole = header_going header past.result past.ensures _ judged (omega arith) in
    let tail = ap (header_end (going read.state read.lines)) (tail_part header read.at) in
    c.finish.ensures ∙ ap result_of (tail ∙ sym (judge_last header_step header_end _ _ _ _ most end c.if-end-header.false) ∙ whole)
