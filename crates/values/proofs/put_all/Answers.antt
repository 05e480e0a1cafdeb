-- `values::put_all` meets its contract.
use Rattle.std.proofs.Common.{◌∙◌, arith}
use Rattle.layout.specs.LayoutLaws.{fields_of_some}
use Rattle.values.specs.LinesLaws.{filled_none, filled_all}
use Rattle.values.proofs.put_all.Goals as goal

pub loop-t-smaller-in-Some : goal.loop-t-smaller-in-Some
loop-t-smaller-in-Some c =
    let u = (rw c.in-Some.is at c.usual_turn.ensures).0 in
    omega (arith, u.number_is, u.within, fields_of_some c.args.p.now.set.case c.requires.ready.0.eight, c.loop-t-test.true)

pub returns : goal.returns
returns c = filled_all _ _ _ _ c.loop-t-test.false ∙ c.loop-t.invariant.placed ∙ filled_none _ _ _
