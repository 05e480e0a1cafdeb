-- `judge::line_step` meets its contract.
use mathlib.Core.Path.{refl, sym, ◌∙◌}
use native.Mathlib.Omega.{arith}
use Rattle.std.proofs.lemmas.Result.{err_from_is_err_and}
use lib.Seq.{length-take-le}
use Rattle.line.specs.LineLaws.{columns_within, verdict_ok, verdict_err}
use Rattle.judge.specs.JudgeLaws.{columns_first, line_step_own, line_step_place}
use Rattle.judge.specs.PlainLaws.{plain_step_lem, plain_number_line_lem}
use Rattle.judge.proofs.line_step.Goals as goal

pub returns-then-is_plain_delimiter : goal.returns-then-is_plain_delimiter
returns-then-is_plain_delimiter c = plain_step_lem _ _ (c.is_plain_delimiter.ensures c.if-is_plain_delimiter.true) c.delimiter_step.ensures

pub slice_bounds-columns-end : goal.slice_bounds-columns-end
slice_bounds-columns-end c = sym (length-take-le _ _ (rw c.columns_len-n.ensures (columns_within _ _)))

pub returns-in-Some : goal.returns-in-Some
returns-in-Some c =
    let due = c.in-Some.ensures in
    rw c.opened.ensures (plain_number_line_lem due.1 due.2 _ _ (columns_first _ _ c.columns_len-n.ensures) due.0)

pub returns-in_err-line_fault : goal.returns-in_err-line_fault
returns-in_err-line_fault c =
    let p = err_from_is_err_and c.from_residual.result c.from_residual.ensures.1 in
    let told = verdict_err _ _ (sym c.in_err-line_fault.was ∙ c.line_fault.ensures) in
    rw (p.1, p.2, told.0) (line_step_own _ _ _ c.columns_len-n.ensures _ refl told.1)

pub returns : goal.returns
returns c = c.step.ensures ∙ rw c.fill_line.ensures (line_step_place _ _ _ c.columns_len-n.ensures _ refl (omega (arith, verdict_ok _ (sym c.in_ok-line_fault.was ∙ c.line_fault.ensures))))
