-- `record::first_stray` meets its contract.
use Rattle.std.specs.Prelude.{length}
use Rattle.record.specs.Check.{stray}
use Rattle.record.specs.Going.{Going}
use Rattle.record.proofs.first_stray.Given as goal

abbrev pub invariant-loop-form : goal.invariant-loop-form
invariant-loop-form l = Going stray l.line l.forms l.widths l.at (length l.yielded)
