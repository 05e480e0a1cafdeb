-- `judge::finish` meets its contract.
use mathlib.Core.Path.{sym, ◌∙◌}
use Rattle.line.specs.LineLaws.{verdict_err, unended_err}
use Rattle.judge.specs.JudgeLaws.{run_end_rest}
use Rattle.judge.proofs.finish.Goals as goal

pub unreachable-requires : goal.unreachable-requires
unreachable-requires c = unended_err _ (sym c.in_default.is ∙ c.line_fault.ensures)

pub returns-then-rest-gt0 : goal.returns-then-rest-gt0
returns-then-rest-gt0 c =
    let told = verdict_err _ _ (sym c.in-Err.is ∙ c.line_fault.ensures) in
    c.reply_at.ensures ∙ rw told.0 (run_end_rest c.args.s c.args.lines c.args.rest.now c.if-rest-gt0.true)
