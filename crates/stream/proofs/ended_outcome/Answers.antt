-- `stream::ended_outcome` meets its contract.
use mathlib.Core.Path.{refl, sym, ◌∙◌}
use Rattle.std.proofs.lemmas.Result.{err_from_is_err_and}
use Rattle.line.specs.LineLaws.{verdict_ok, verdict_err}
use lib.ListN.{length-set, length-take}
use lib.Seq.{length-take-le}
use native.Mathlib.Omega.{arith}
use borrow.Author.Rules.{rules}
use Rattle.stream.specs.OpenLineLaws.{ended_most, ended_own, ended_refused, ended_next}
use Rattle.stream.proofs.ended_outcome.Goals as goal

pub slice_bounds-columns_len-end : goal.slice_bounds-columns_len-end
slice_bounds-columns_len-end c = sym (length-take-le _ _ (omega (arith, c.requires)))

pub slice_bounds-line_fault-end : goal.slice_bounds-line_fault-end
slice_bounds-line_fault-end c =
    let most = ended_most c.args.line.now c.args.n _ c.columns_len-m.ensures in
    sym (length-take-le _ _ (omega (arith, most, c.requires)))

pub returns-in_err-line_fault : goal.returns-in_err-line_fault
returns-in_err-line_fault c =
    let p = err_from_is_err_and c.from_residual.result c.from_residual.ensures.1 in
    let told = verdict_err _ _ (sym c.in_err-line_fault.was ∙ c.line_fault.ensures) in
    let own = ended_own c.args.state c.args.line.now c.args.n _ c.columns_len-m.ensures in
    rw (p.1, p.2, told.0) (own _ refl told.1)

pub bounds-ended-m : goal.bounds-ended-m
bounds-ended-m c = omega (arith, ended_most c.args.line.now c.args.n _ c.columns_len-m.ensures, c.requires)

pub overflow_add-ended : goal.overflow_add-ended
overflow_add-ended c = omega (arith, ended_most c.args.line.now c.args.n _ c.columns_len-m.ensures, c.requires)

pub slice_bounds-ended-end : goal.slice_bounds-ended-end
slice_bounds-ended-end c = simp length-set (omega (arith, ended_most c.args.line.now c.args.n _ c.columns_len-m.ensures, c.requires))

pub slice_bounds-judge_lines-end : goal.slice_bounds-judge_lines-end
slice_bounds-judge_lines-end c =
    let most = ended_most c.args.line.now c.args.n _ c.columns_len-m.ensures in
    sym (length-take-le _ _ (simp length-set (omega (arith, most, c.requires))))

pub judge_lines-requires : goal.judge_lines-requires
judge_lines-requires c =
    let most = ended_most c.args.line.now c.args.n _ c.columns_len-m.ensures in
    (search rules, simp length-take (omega (arith, most, c.requires)))

pub returns-in-Err : goal.returns-in-Err
returns-in-Err c =
    let most = ended_most c.args.line.now c.args.n _ c.columns_len-m.ensures in
    let columns = c.columns_len-m.ensures in
    let fine = verdict_ok _ (sym c.in_ok-line_fault.was ∙ c.line_fault.ensures) in
    let judged = ended_refused c.args.state c.args.line.now c.args.n _ columns _ refl (omega (arith, fine)) in
    judged (omega (arith, most, c.requires)) _ c.in-Err.ensures.1 c.in-Err.ensures.0

pub returns-in-Ok : goal.returns-in-Ok
returns-in-Ok c =
    let most = ended_most c.args.line.now c.args.n _ c.columns_len-m.ensures in
    let columns = c.columns_len-m.ensures in
    let fine = verdict_ok _ (sym c.in_ok-line_fault.was ∙ c.line_fault.ensures) in
    let judged = ended_next c.args.state c.args.line.now c.args.n _ columns _ refl (omega (arith, fine)) in
    judged (omega (arith, most, c.requires)) _ c.in-Ok.ensures (omega arith)
