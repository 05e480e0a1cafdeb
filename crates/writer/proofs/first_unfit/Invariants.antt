-- `writer::first_unfit` meets its contract: the first j numbers fit.
use mathlib.Core.Path.{◌≡◌}
use lib.ListN.{drop}
use Rattle.writer.specs.Writer.{first_unfit}
use Rattle.writer.proofs.first_unfit.Given as goal

abbrev pub invariant-loop-j : goal.invariant-loop-j
invariant-loop-j l = first_unfit l.case l.j (drop l.j l.coefficients) (drop l.j l.scales) ≡ first_unfit l.case 0 l.coefficients l.scales
