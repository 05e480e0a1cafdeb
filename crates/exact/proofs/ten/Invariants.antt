-- `ten`: after so many turns the power is 10^(2 × turns) itself.
use mathlib.Core.Path.{◌≡◌}
use Prim.Native.Nat.{◌*◌}
use Rattle.exact.specs.Exact.{ten_of}
use Rattle.exact.proofs.ten.Given as goal

abbrev pub invariant-loop : goal.invariant-loop
invariant-loop l = l.power ≡ ten_of (l.counter * 2)
