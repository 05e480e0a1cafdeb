-- `usual::typed_ahead` meets its contract.
use Rattle.usual.specs.TakenLaws.{ahead_none, ahead_ran}
use borrow.Author.Rules.{rules}
use Rattle.usual.proofs.typed_ahead.Goals as goal

pub returns-then-d-ne-KIND_58 : goal.returns-then-d-ne-KIND_58
returns-then-d-ne-KIND_58 c = ahead_none _ _ _ _ c.not_ahead.ensures (search rules)

pub returns-then-run-at : goal.returns-then-run-at
returns-then-run-at c = ahead_none _ _ _ _ c.not_ahead-then-run-at.ensures (search rules)

pub returns : goal.returns
returns c = ahead_ran _ _ _ _ _ _ c.if-d-ne-KIND_58.false c.if-d-ne-HEADER_LINES.false c.run_of-run.ensures c.if-run-at.false
