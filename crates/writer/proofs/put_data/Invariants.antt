-- `writer::put_data` meets its contract: j stored numbers are put, the others are still to come.
use lib.ListN.{drop}
use Rattle.writer.specs.Writer.{data_text}
use Rattle.output.specs.Output.{Put}
use Rattle.writer.proofs.put_data.Given as goal

abbrev pub invariant-loop-j : goal.invariant-loop-j
invariant-loop-j l = Put l.at (data_text l.case 0 l.coefficients l.scales) l.initial.out l.past (data_text l.case l.j (drop l.j l.coefficients) (drop l.j l.scales)) l.out
