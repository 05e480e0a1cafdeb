-- `format::Fields::again` meets its contract.
use Rattle.std.proofs.Common.{sym, ◌∙◌, arith}
use Rattle.format.proofs.RowLaws.{again_row_next, again_row_done}
use Rattle.format.proofs.Fields.again.Goals as goal

pub loop-j-preserved : goal.loop-j-preserved
loop-j-preserved c = again_row_next _ _ _ _ (omega arith) c.push.ensures ∙ c.loop-j.invariant

pub returns : goal.returns
returns c = sym (again_row_done _ _ _ (omega arith)) ∙ c.loop-j.invariant
