-- `format::Fields::repeat` meets its contract.
use Rattle.std.proofs.Common.{sym, ◌∙◌, arith}
use Rattle.format.proofs.RowLaws.{repeat_row_next, repeat_row_end}
use Rattle.format.proofs.Fields.repeat.Goals as goal

pub loop-preserved : goal.loop-preserved
loop-preserved c = repeat_row_next _ _ _ _ _ _ (omega arith) c.again.ensures ∙ c.loop.invariant

pub returns : goal.returns
returns c = sym (repeat_row_end _ _ _ _ _ (omega arith)) ∙ c.loop.invariant
