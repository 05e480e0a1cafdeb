-- `values::usual_next` meets its contract.
use Rattle.std.proofs.Common.{arith}
use Rattle.layout.specs.LayoutLaws.{total_inside}
use Rattle.values.specs.LinesLaws.{powers_all, usual_line}
use Rattle.values.proofs.usual_next.Goals as goal

pub overflow_add-at-2 : goal.overflow_add-at-2
overflow_add-at-2 c =
    let own = rw c.in-Some.is at c.requires.1.laid in
    omega (arith, own.0.columns_are, total_inside c.args.p.now.set.case)

pub returns : goal.returns
returns c =
    let own = rw c.in-Some.is at c.requires.1.laid in
    let passed = c.passes.ensures c.if-not-passes.false in (
      usual_line c.args.file.now c.args.p.now.set _ _ c.args.at c.requires.1.eight own.0 c.if-file-at.false passed _ c.if-p-at.false c.end_from-end.ensures c.if-file-end.false,
      powers_all _ _ (omega arith) own.1,
    )
