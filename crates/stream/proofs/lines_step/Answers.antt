-- `stream::lines_step` meets its contract.
use Rattle.std.specs.Prelude.{unwrap_or}
use Rattle.std.proofs.Common.{length, ap, ◌∙◌, length-drop}
use Rattle.laws.specs.ChoiceLaws.{above_zero_or}
use Rattle.laws.specs.CutLaws.{tail_part}
use Rattle.stream.specs.Stream.{fresh_record}
use Rattle.stream.specs.StreamLaws.{lines_refused, lines_going, lines_refused_whole, lines_going_whole, none_held}
use native.Mathlib.Omega.{arith}
use Rattle.stream.proofs.lines_step.Goals as goal

pub judge_lines-requires : goal.judge_lines-requires
judge_lines-requires c = (c.requires.0, omega (arith, c.requires))

pub returns-in-Err : goal.returns-in-Err
unfolding fresh_record
returns-in-Err c =
    let stopped = c.in-Err.ensures in
    rw c.fresh.ensures (lines_refused _ _ _ _ _ c.requires.1 c.requires.3 _ stopped.1 _ stopped.0, lines_refused_whole _ _ _ _ _ _ stopped.1 stopped.0)

pub slice_bounds-rest-count : goal.slice_bounds-rest-count
slice_bounds-rest-count c = omega (arith, c.in-Ok.ensures.within)

pub slice_bounds-rest-start : goal.slice_bounds-rest-start
slice_bounds-rest-start c = omega (arith, c.in-Ok.ensures.within)

pub returns-in-Ok : goal.returns-in-Ok
unfolding fresh_record
returns-in-Ok c =
    let pre = c.requires in
    let judged = c.in-Ok.ensures in
    let read = c.in-Ok.read in
    let rest = tail_part c.args.burst.now read.at in
    let held = ap length rest ∙ length-drop read.at c.args.burst.now in
    let pushed = rw c.fresh.ensures at c.push.ensures in
    let found = c.unwrap_or.ensures ∙ ap (λ x. unwrap_or x 0) c.first_bad.ensures ∙ above_zero_or _ in
    rw (c.fresh.ensures, held) (
      lines_going _ _ _ _ _ pre.1 pre.3 _ judged _ _ _ _ (omega arith) pre.2 none_held rest pushed found,
      lines_going_whole _ _ _ _ _ _ judged _ _ _ (omega arith) rest pushed found,
    )
