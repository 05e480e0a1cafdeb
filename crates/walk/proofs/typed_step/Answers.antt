-- `walk::typed_step` meets its contract.
use mathlib.Core.Path.{sym, ◌∙◌}
use native.Mathlib.Omega.{arith}
use Rattle.std.proofs.lemmas.Result.{err_from_is_err_and}
use Rattle.line.specs.LineLaws.{verdict_ok, verdict_err}
use Rattle.walk.specs.Step.{typed_step}
use Rattle.walk.specs.DueLaws.{record_due_at, due_record_some, due_record_none}
use Rattle.walk.specs.StepLaws.{unless_here, unless_on, record_comes, list_comes, none_comes}
use Rattle.walk.proofs.typed_step.Goals as goal

pub returns-then-may_close : goal.returns-then-may_close
unfolding typed_step
returns-then-may_close c = c.goes_on.ensures ∙ simp (sym c.is_delimiter.ensures ∙ c.if-is_delimiter.true, sym c.may_close.ensures ∙ c.if-may_close.true)

pub returns-then-is_delimiter : goal.returns-then-is_delimiter
unfolding typed_step
returns-then-is_delimiter c = c.refused.ensures ∙ simp (sym c.is_delimiter.ensures ∙ c.if-is_delimiter.true, sym c.may_close.ensures ∙ c.if-may_close.false)

pub returns-in_err-check_record-in-Some : goal.returns-in_err-check_record-in-Some
returns-in_err-check_record-in-Some c =
    let p = err_from_is_err_and c.from_residual.result c.from_residual.ensures.1 in
    let row = due_record_some _ _ (sym c.record_due.ensures ∙ c.in-Some.is) in
    let told = verdict_err _ _ (sym c.in_err-check_record-in-Some.was ∙ c.check_record.ensures) in
    rw (p.1, p.2, told.0) (sym (record_comes _ _ _ (sym c.is_delimiter.ensures ∙ c.if-is_delimiter.false) row.1 ∙ rw row.0 (unless_here _ _ told.1)))

pub after_record-requires : goal.after_record-requires
after_record-requires c = record_due_at c.args.d (due_record_some _ _ (sym c.record_due.ensures ∙ c.in-Some.is)).1

pub check_list-requires : goal.check_list-requires
check_list-requires c = due_record_none _ (sym c.record_due.ensures ∙ c.in-None.is)

pub returns-in_err-check_list-in-None : goal.returns-in_err-check_list-in-None
returns-in_err-check_list-in-None c =
    let p = err_from_is_err_and c.from_residual-in_err-check_list-in-None.result c.from_residual-in_err-check_list-in-None.ensures.1 in
    let past = due_record_none _ (sym c.record_due.ensures ∙ c.in-None.is) in
    let told = verdict_err _ _ (sym c.in_err-check_list-in-None.was ∙ c.check_list.ensures) in
    rw (p.1, p.2, told.0) (sym (list_comes _ _ _ (sym c.is_delimiter.ensures ∙ c.if-is_delimiter.false) past c.if-d-gt0.true ∙ unless_here _ _ told.1))

pub returns-in_ok-check_record-in-Some : goal.returns-in_ok-check_record-in-Some
returns-in_ok-check_record-in-Some c =
    let row = due_record_some _ _ (sym c.record_due.ensures ∙ c.in-Some.is) in
    let fine = verdict_ok _ (sym c.in_ok-check_record-in-Some.was ∙ c.check_record.ensures) in
    let comes = record_comes c.args.d c.args.sets c.args.line.now (sym c.is_delimiter.ensures ∙ c.if-is_delimiter.false) row.1 in
    c.goes_on-in-Some.ensures ∙ rw c.after_record.ensures (sym (comes ∙ rw row.0 (unless_on _ _ (omega (arith, fine)))))

pub returns-in_ok-check_list-in-None : goal.returns-in_ok-check_list-in-None
returns-in_ok-check_list-in-None c =
    let past = due_record_none _ (sym c.record_due.ensures ∙ c.in-None.is) in
    let fine = verdict_ok _ (sym c.in_ok-check_list-in-None.was ∙ c.check_list.ensures) in
    let comes = list_comes c.args.d c.args.sets c.args.line.now (sym c.is_delimiter.ensures ∙ c.if-is_delimiter.false) past c.if-d-gt0.true in
    c.goes_on-in-None.ensures ∙ rw c.after_list.ensures (sym (comes ∙ unless_on _ _ (omega (arith, fine))))

pub returns-in-None-2 : goal.returns-in-None-2
returns-in-None-2 c =
    let past = due_record_none _ (sym c.record_due.ensures ∙ c.in-None.is) in
    c.refused-in-None-2.ensures ∙ sym (none_comes _ _ _ (sym c.is_delimiter.ensures ∙ c.if-is_delimiter.false) past c.if-d-gt0.false)
