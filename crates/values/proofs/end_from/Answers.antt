-- `values::end_from` meets its contract.
use Rattle.laws.specs.CutLaws.{len_here}
use native.Mathlib.Omega.{arith}
use Rattle.values.proofs.end_from.Goals as goal

pub returns-then-file-from-eq10 : goal.returns-then-file-from-eq10
returns-then-file-from-eq10 c =
    let args = c.args in
    omega (arith, len_here args.file.now args.from c.if-file-from.false c.if-file-from-eq10.true)
