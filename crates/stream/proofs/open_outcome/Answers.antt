-- `stream::open_outcome` meets its contract.
use mathlib.Core.Path.{refl, sym, ◌∙◌}
use native.Mathlib.Omega.{arith}
use Rattle.std.proofs.lemmas.Result.{err_from_is_err_and}
use Rattle.line.specs.LineLaws.{verdict_ok, verdict_err}
use Rattle.std.specs.Prelude.{◌≤◌, true}
use Rattle.stream.specs.Stream.{fault_of}
use Rattle.stream.specs.OpenLineLaws.{held_refused, held_short, held_passed}
use Rattle.stream.proofs.open_outcome.Goals as goal

pub returns-in_err-open_fault : goal.returns-in_err-open_fault
returns-in_err-open_fault c =
    let p = err_from_is_err_and c.from_residual.result c.from_residual.ensures.1 in
    let told = verdict_err _ _ (sym c.in_err-open_fault.was ∙ c.open_fault.ensures) in
    rw (p.1, p.2, told.0) (held_refused c.args.state c.args.line.now _ _ _ c.open_columns-n.ensures _ refl told.1)

pub ended_outcome-requires : goal.ended_outcome-requires
ended_outcome-requires c =
    let fine = verdict_ok _ (sym c.in_ok-open_fault.was ∙ c.open_fault.ensures) in
    let passed : (fault_of true c.open_columns-n.result c.args.bad).number ≤ 0 = omega (arith, fine) in
    held_short c.args.state c.args.line.now _ _ _ c.open_columns-n.ensures _ refl passed

pub returns : goal.returns
returns c =
    let fine = verdict_ok _ (sym c.in_ok-open_fault.was ∙ c.open_fault.ensures) in
    let passed : (fault_of true c.open_columns-n.result c.args.bad).number ≤ 0 = omega (arith, fine) in
    c.ended_outcome.ensures ∙ held_passed c.args.state c.args.line.now _ _ _ c.open_columns-n.ensures _ refl passed
