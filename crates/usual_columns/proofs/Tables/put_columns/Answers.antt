use Rattle.std.proofs.Common.{arith}
use Rattle.usual_columns.specs.CellsLaws.{grown_begin, grown_next, grown_all}
use Rattle.usual_columns.proofs.Tables.put_columns.Goals as goal

pub loop-i-init : goal.loop-i-init
loop-i-init c = grown_begin _ _ _

pub loop-i-preserved : goal.loop-i-preserved
loop-i-preserved c = grown_next _ _ _ _ _ _ c.loop-i.auto.i c.loop-i.invariant c.put_column.ensures

pub returns : goal.returns
returns c = let pre = c.requires in grown_all _ _ _ c.args.past _ _ (omega arith) (omega arith) c.loop-i.invariant
