-- `parts::ends_in` meets its contract.
use mathlib.Core.Path.{◌≡◌}
use mathlib.Core.List.{List}
use Prim.Native.Nat.{ℕ, ◌+◌, ◌≤◌}
use lib.ListN.{drop}
use Rattle.parts.specs.Mark.{ends_in}
use Rattle.parts.proofs.ends_in.Given as goal

-- LFs among the first i bytes and those left are all of them
pub record Going (bytes : List ℕ) (ends i : ℕ) : Type 0 where
  pub most : ends ≤ i
  pub same : ends + ends_in (drop i bytes) ≡ ends_in bytes

abbrev pub invariant-loop-b : goal.invariant-loop-b
invariant-loop-b l = Going l.bytes l.ends l.b-index
