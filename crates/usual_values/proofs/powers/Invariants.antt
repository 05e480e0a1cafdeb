-- `usual_values::powers` meets its contract.
use mathlib.Core.Path.{◌≡◌}
use mathlib.Core.List.{List}
use Prim.Native.Nat.{ℕ, ◌≤◌}
use lib.Ieee.{Float}
use lib.ListN.{length, get_or}
use Rattle.exact.specs.Exact.{ten_of}
use Rattle.usual_values.proofs.powers.Given as goal

-- the powers up to 10^k are in the table, and this is the last of them
pub record Worked (t : List Float) (power : Float) (k : ℕ) : Type 0 where
  pub long : length t ≡ 23
  pub exact : power ≡ ten_of k
  pub entry : (i : ℕ) (x : Float) → i ≤ k → get_or t i x ≡ ten_of i

abbrev pub invariant-loop-k : goal.invariant-loop-k
invariant-loop-k l = Worked l.tens l.power l.k
