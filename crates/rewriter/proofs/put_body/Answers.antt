use mathlib.Core.List.{List}
use Prim.Native.Nat.{ℕ, ◌+◌, ◌-◌}
use lib.ListN.{take, drop}
use Rattle.output.specs.Output.{ended}
use Rattle.output.specs.OutputLaws.{put_start, put_done, put_room, put_next}
use Rattle.rewriter.specs.Body.{body_text}
use Rattle.rewriter.proofs.BodyLaws.{kept_within, body_stops, body_ends, body_kept}
use native.Mathlib.Omega.{arith}
use Rattle.rewriter.proofs.put_body.Goals as goal

pub loop-line-init : goal.loop-line-init
loop-line-init c = record { within = c.requires.0; put = put_start _ _ _ }

pub shape_of-out-then-file-end : goal.shape_of-out-then-file-end
shape_of-out-then-file-end c = c.loop-line.invariant.put.same

pub returns-then-file-end : goal.returns-then-file-end
returns-then-file-end c = put_done _ _ _ _ _ _ c.loop-line.invariant.put (body_ends _ _ _ _ c.loop-line.invariant.within c.find_end-end.ensures c.if-file-end.true)

pub overflow_add-stop : goal.overflow_add-stop
overflow_add-stop c = omega (arith, kept_within c.args.file.now c.loop-line.line c.find_end-end.result c.kept_len.result c.kept_len.ensures)

pub slice_bounds-put_line-end : goal.slice_bounds-put_line-end
slice_bounds-put_line-end c = omega (arith, kept_within c.args.file.now c.loop-line.line c.find_end-end.result c.kept_len.result c.kept_len.ensures)

pub put_line-put-requires : goal.put_line-put-requires
put_line-put-requires c =
    let file : List ℕ = c.args.file.now in
    let closing : ℕ = c.args.closing in
    let line : ℕ = c.loop-line.line in
    let end : ℕ = c.find_end-end.result in
    let kept : ℕ = c.kept_len.result in
    let inv = c.loop-line.invariant in
    let more = c.loop-line-test.true in
    let here = body_kept closing file line end kept more inv.within c.find_end-end.ensures c.if-file-end.false c.kept_len.ensures in
    let row : List ℕ = ended (take (line + kept - line) (drop line file)) in
    put_room _ _ _ _ _ _ inv.put c.requires.1 row (body_text closing (end + 1) file) here

pub put_text-past-requires : goal.put_text-past-requires
put_text-past-requires c =
    let file : List ℕ = c.args.file.now in
    let closing : ℕ = c.args.closing in
    let line : ℕ = c.loop-line.line in
    let end : ℕ = c.find_end-end.result in
    let kept : ℕ = c.kept_len.result in
    let inv = c.loop-line.invariant in
    let more = c.loop-line-test.true in
    let here = body_kept closing file line end kept more inv.within c.find_end-end.ensures c.if-file-end.false c.kept_len.ensures in
    let row : List ℕ = ended (take (line + kept - line) (drop line file)) in
    let done = c.put_line-put.ensures in
    let lined = put_next _ _ _ _ _ _ inv.put c.requires.1 row (body_text closing (end + 1) file) here _ _ done.0 done.1 in
    let past : ℕ = c.past_run-line.result in
    put_room _ _ _ _ _ _ lined c.requires.1 (take (past - (end + 1)) (drop (end + 1) file)) (body_text closing past file) c.past_run-line.ensures.same

pub loop-line-preserved : goal.loop-line-preserved
loop-line-preserved c =
    let file : List ℕ = c.args.file.now in
    let closing : ℕ = c.args.closing in
    let line : ℕ = c.loop-line.line in
    let end : ℕ = c.find_end-end.result in
    let kept : ℕ = c.kept_len.result in
    let inv = c.loop-line.invariant in
    let more = c.loop-line-test.true in
    let here = body_kept closing file line end kept more inv.within c.find_end-end.ensures c.if-file-end.false c.kept_len.ensures in
    let row : List ℕ = ended (take (line + kept - line) (drop line file)) in
    let done = c.put_line-put.ensures in
    let lined = put_next _ _ _ _ _ _ inv.put c.requires.1 row (body_text closing (end + 1) file) here _ _ done.0 done.1 in
    let past : ℕ = c.past_run-line.result in
    let run : List ℕ = take (past - (end + 1)) (drop (end + 1) file) in
    let ran = c.put_text-past.ensures in
    record {
      within = c.past_run-line.ensures.within;
      put = put_next _ _ _ _ _ _ lined c.requires.1 run (body_text closing past file) c.past_run-line.ensures.same _ _ ran.0 ran.1;
    }

pub shape_of-out : goal.shape_of-out
shape_of-out c = c.loop-line.invariant.put.same

pub returns : goal.returns
returns c = put_done _ _ _ _ _ _ c.loop-line.invariant.put (body_stops _ _ _ c.loop-line-test.false)
