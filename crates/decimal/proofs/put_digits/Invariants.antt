-- `decimal::put_digits` meets its contract.
use mathlib.Core.Path.{◌≡◌}
use mathlib.Core.List.{◌++◌}
use Prim.Native.Nat.{◌*◌, ◌^◌}
use lib.ListN.{length, drop}
use Rattle.decimal.specs.Decimal.{digits_of}
use Rattle.decimal.proofs.put_digits.Given as goal

-- the digits before i are still to come, the places from i on have theirs
abbrev pub invariant-loop-i : goal.invariant-loop-i
invariant-loop-i l = digits_of l.i (l.rest * 10 ^ l.left) ++ drop l.i l.out ≡ digits_of (length l.initial.out) (l.number * 10 ^ l.zeros)
