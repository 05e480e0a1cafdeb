use Rattle.usual_columns.specs.CellsLaws.{passed_none, passed_more, passed_all}
use Rattle.std.proofs.Common.{◌+◌, arith}
use Rattle.usual_columns.proofs.passes.Goals as goal

pub loop-i-init : goal.loop-i-init
loop-i-init c = λ e. passed_none _ _ _

pub loop-i-preserved : goal.loop-i-preserved
loop-i-preserved c = λ e. passed_more _ _ _ _ _ _ c.loop-i.invariant (omega (arith, c.type_inv.s (c.args.at + c.loop-i.i))) e

pub returns : goal.returns
returns c = λ e. passed_all _ _ _ _ (omega arith) (omega arith) (c.loop-i.invariant e)
