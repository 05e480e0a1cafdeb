-- `lister::put_row` meets its contract.
use lib.ListN.{length-set}
use Rattle.lister.specs.Listed.{row_of}
use Rattle.lister.specs.ListerLaws.{seven}
use native.Mathlib.Omega.{arith}
use Rattle.lister.proofs.put_row.Goals as goal

pub bounds-row-4 : goal.bounds-row-4
bounds-row-4 c = simp length-set (omega (arith, c.requires.0))

pub bounds-row-5 : goal.bounds-row-5
bounds-row-5 c = simp length-set (omega (arith, c.requires.0))

pub bounds-row-6 : goal.bounds-row-6
bounds-row-6 c = simp length-set (omega (arith, c.requires.0))

pub returns : goal.returns
unfolding row_of
returns c = seven c.args.row.now _ _ _ _ _ _ _ c.requires.0
