use mathlib.Core.Path.{refl, sym, ◌∙◌}
use Rattle.judge.specs.RefusalLaws.{refusal_sure}
use Rattle.judge.specs.LinesLaws.{reached_ahead, ahead_less, lines_next, rest_next, judged_to_stop, judged_to_end}
use borrow.Author.Rules.{rules}
use native.Mathlib.Omega.{arith}
use Rattle.judge.proofs.judge_lines.Goals as goal

pub loop-read-init : goal.loop-read-init
loop-read-init c =
    rw c.so_far-read.ensures
    (record { within = search rules; few = search rules; same_lines = refl; same_rest = refl })

pub loop-read-smaller-then-wait-in_data : goal.loop-read-smaller-then-wait-in_data
loop-read-smaller-then-wait-in_data c =
    rw c.so_far-read-then-wait-in_data.ensures (ahead_less _ _ _ _ _ _ c.loop-read-test.true c.if-wait-in_data.true c.run_ahead-ahead.ensures)

pub loop-read-preserved-then-wait-in_data : goal.loop-read-preserved-then-wait-in_data
loop-read-preserved-then-wait-in_data c =
    rw c.so_far-read-then-wait-in_data.ensures
    (reached_ahead _ _ _ _ _ _ _ _ c.loop-read.invariant c.run_ahead-ahead.ensures)

pub returns-then-bytes-end : goal.returns-then-bytes-end
returns-then-bytes-end c =
    let inv = c.loop-read.invariant in
    let to_end = judged_to_end _ _ _ inv.within c.find_end-end.ensures _ _ _ c.requires.0 _ _ inv.few inv.same_lines in
    to_end c.if-bytes-end.true inv.same_rest _ refl

pub returns-in-Err : goal.returns-in-Err
returns-in-Err c =
    let inv = c.loop-read.invariant in
    let sure = refusal_sure _ _ _ (sym c.line_step.ensures ∙ c.in-Err.is) in
    let stop = judged_to_stop _ _ _ inv.within c.find_end-end.ensures _ _ _ c.requires.0 _ _ inv.few inv.same_lines in
    (sure, stop c.if-bytes-end.false _ c.line_step.ensures _ c.in-Err.is _ refl)

pub loop-read-preserved : goal.loop-read-preserved
loop-read-preserved c =
    let inv = c.loop-read.invariant in
    let next = lines_next _ _ _ inv.within c.find_end-end.ensures c.if-bytes-end.false in
    rw c.so_far-read-in-Ok.ensures
    (record {
      within = search rules;
      few = omega (arith, inv.few, c.find_end-end.ensures);
      same_lines = next _ _ _ c.line_step.ensures _ c.in-Ok.is ∙ inv.same_lines;
      same_rest = rest_next _ _ _ inv.within c.find_end-end.ensures c.if-bytes-end.false ∙ inv.same_rest;
    })

pub returns : goal.returns
returns c =
    let inv = c.loop-read.invariant in
    let to_end = judged_to_end _ _ _ inv.within refl _ _ _ c.requires.0 _ _ inv.few inv.same_lines in
    to_end (omega (arith, c.loop-read-test.false)) inv.same_rest _ refl
