-- `rewriter::past_run` meets its contract.
use native.Mathlib.Omega.{arith}
use Rattle.rewriter.proofs.RunLaws.{bared_within, run_none, run_last}
use Rattle.rewriter.proofs.past_run.Goals as goal

pub returns-then-not-whole : goal.returns-then-not-whole
returns-then-not-whole c = run_none _ _ _ c.requires

pub returns-then-file-closing : goal.returns-then-file-closing
returns-then-file-closing c = run_none _ _ _ c.requires

pub overflow_add-stop : goal.overflow_add-stop
overflow_add-stop c =
    let file = c.args.file.now in
    omega (arith, bared_within file _ _ _ c.requires c.if-file-closing.false c.past_bare-stop.ensures)

pub last_line-requires : goal.last_line-requires
last_line-requires c =
    let file = c.args.file.now in
    (omega (arith, c.past_bare-stop.ensures.onward), omega (arith, bared_within file _ _ _ c.requires c.if-file-closing.false c.past_bare-stop.ensures))

pub returns : goal.returns
returns c = run_last _ _ _ _ _ c.requires c.if-file-closing.false c.past_bare-stop.ensures c.last_line.ensures
