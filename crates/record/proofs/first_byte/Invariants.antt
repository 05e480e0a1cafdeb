-- `record::first_byte` meets its contract.
use Rattle.std.specs.Prelude.{◌≡◌, ◌-◌, ◌+◌, take, drop}
use Rattle.record.specs.Check.{first_non_blank}
use Rattle.record.proofs.first_byte.Given as goal

abbrev pub invariant-loop-i : goal.invariant-loop-i
invariant-loop-i l = first_non_blank (l.i + 1) (take (l.past - l.i) (drop l.i l.line)) ≡ first_non_blank (l.at + 1) (take (l.past - l.at) (drop l.at l.line))
