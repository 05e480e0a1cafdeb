-- `values::look_all` meets its contract.
use Rattle.std.proofs.Common.{◌∙◌, arith}
use Rattle.std.proofs.lemmas.Result.{err_from_is_err_and}
use Rattle.layout.specs.LayoutLaws.{fields_of_some}
use Rattle.reader.specs.Find.{real_at}
use Rattle.values.specs.Lines.{Told}
use Rattle.values.specs.FillLaws.{refusal_none}
use Rattle.values.specs.LinesLaws.{line_skipped, told_refused, told_passed}
use Rattle.values.proofs.look_all.Goals as goal

pub loop-t-smaller-in-Some : goal.loop-t-smaller-in-Some
loop-t-smaller-in-Some c =
    let u = (rw c.in-Some.is at c.usual_turn.ensures).0 in
    omega (arith, u.number_is, u.within, fields_of_some c.args.p.now.set.case c.requires.0.eight, c.loop-t-test.true)

pub loop-t-preserved-in-Some : goal.loop-t-preserved-in-Some
loop-t-preserved-in-Some c =
    let u = (rw c.in-Some.is at c.usual_turn.ensures).0 in
    let ready = c.requires.0 in
    let file = c.args.file.now in
    let skipped = line_skipped file c.args.p.now.set ready.body ready.eight _ _ _ u.opens u.usual c.args.p.now.stored (omega (arith, u.number_is, u.within)) in
    record { at_spot = u.at_spot; within = u.within; same = rw u.number_is skipped ∙ c.loop-t.invariant.same }

pub returns-in_err-refusal_in : goal.returns-in_err-refusal_in
returns-in_err-refusal_in c =
    let p = err_from_is_err_and c.from_residual.result c.from_residual.ensures.1 in
    rw (p.1, p.2)
    (told_refused (real_at c.args.file.now c.args.p.now.set) _ _ c.loop-t-test.true c.columns_of.ensures.1 c.in_err-refusal_in.ensures c.loop-t.invariant.same)

pub loop-t-preserved : goal.loop-t-preserved
loop-t-preserved c =
    let next = c.next_turn-t.ensures in
    let told = rw c.in_ok-refusal_in.was at c.refusal_in.ensures in
    record {
      at_spot = next.1;
      within = omega (arith, next.0, c.loop-t-test.true);
      same = rw next.0 (told_passed (real_at c.args.file.now c.args.p.now.set) _ _ c.loop-t-test.true c.columns_of.ensures.1 told) ∙ c.loop-t.invariant.same;
    }

pub returns : goal.returns
returns c =
    rw (← c.loop-t.invariant.same, ← refusal_none (real_at c.args.file.now c.args.p.now.set) _ _ c.loop-t-test.false) Told.none
