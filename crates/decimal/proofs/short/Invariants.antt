-- `decimal::short` meets its contract.
use mathlib.Core.Path.{◌≡◌}
use Prim.Native.Nat.{ℕ, ◌≤◌, ◌<◌}
use Rattle.decimal.specs.Decimal.{short}
use Rattle.decimal.proofs.short.Given as goal

-- zeros are cut off: what is left has the same short number
pub record Going (n rest : ℕ) : Type 0 where
  pub some : 0 < rest
  pub most : rest ≤ n
  pub same : short rest ≡ short n

abbrev pub invariant-loop-rest : goal.invariant-loop-rest
invariant-loop-rest l = Going l.n l.rest

abbrev pub decreases-loop-rest : goal.decreases-loop-rest
decreases-loop-rest l = l.rest
