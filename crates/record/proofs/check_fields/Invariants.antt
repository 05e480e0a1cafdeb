-- `record::check_fields` meets its contract.
use Rattle.std.specs.Prelude.{length}
use Rattle.record.specs.Going.{Going}
use Rattle.record.specs.Overlooked.{fault_but}
use Rattle.record.proofs.check_fields.Given as goal

abbrev pub invariant-loop-form : goal.invariant-loop-form
invariant-loop-form l = Going (fault_but l.overlooked) l.line l.forms l.widths l.at (length l.yielded)
