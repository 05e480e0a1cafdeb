-- `parts::skip_lines` meets its contract.
use Prim.Native.Nat.{◌-◌}
use Rattle.parts.specs.Skip.{Skipped}
use Rattle.parts.proofs.skip_lines.Given as goal

abbrev pub invariant-loop : goal.invariant-loop
invariant-loop l = Skipped l.file l.from l.k l.at (l.k - l.counter)
