-- `parts::is_quiet` meets its contract.
use mathlib.Core.Path.{◌≡◌}
use mathlib.Core.Bool.{◌&&◌}
use Rattle.std.specs.Iterator.Adapters.{zip_first, zip_second}
use Rattle.std.specs.Slice.Iter.{iter_rest}
use Rattle.parts.specs.Mark.{quiet}
use Rattle.parts.proofs.is_quiet.Given as goal

-- what is found in the bytes passed and the bytes left say together whether all are quiet
abbrev pub invariant-loop-b : goal.invariant-loop-b
invariant-loop-b l = l.none && quiet (iter_rest (zip_first l.b-iterator)) (iter_rest (zip_second l.b-iterator)) ≡ quiet l.bytes l.later
