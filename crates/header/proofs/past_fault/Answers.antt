-- `header::past_fault` meets its contract.
use mathlib.Core.Path.{refl, sym, ◌∙◌}
use lib.Seq.{length-take-le}
use native.Mathlib.Omega.{arith}
use Rattle.line.specs.LineLaws.{columns_within, verdict_ok, verdict_err}
use Rattle.header.specs.HeaderLaws.{past_fault_lem, past_eight}
use Rattle.header.proofs.past_fault.Goals as goal

pub slice_bounds-line_fault-end : goal.slice_bounds-line_fault-end
slice_bounds-line_fault-end c = sym (length-take-le _ _ (rw c.columns_len-n.ensures (columns_within _ _)))

pub returns-in-Err : goal.returns-in-Err
returns-in-Err c =
    let told = verdict_err _ _ (sym c.in-Err.is ∙ c.line_fault.ensures) in
    told.0 ∙ past_fault_lem _ _ c.columns_len-n.ensures _ refl told.1

pub returns : goal.returns
returns c = past_eight _ _ c.columns_len-n.ensures _ refl (omega (arith, verdict_ok _ (sym c.in_default.is ∙ c.line_fault.ensures)))
