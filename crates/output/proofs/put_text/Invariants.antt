-- `output::put_text` meets its contract.
use mathlib.Core.Path.{◌≡◌}
use mathlib.Core.List.{List}
use Prim.Native.Nat.{ℕ, ◌≤◌, ◌-◌, ◌+◌}
use lib.ListN.{length, drop}
use Rattle.output.specs.Output.{Put}
use Rattle.output.proofs.put_text.Given as goal

-- i bytes of the text are put, the others are still to come
pub record Going (s out₀ : List ℕ) (at past i : ℕ) (out : List ℕ) : Type 0 where
  pub within : i ≤ length s
  pub here : past ≡ at + i
  pub put : Put at s out₀ past (drop i s) out

abbrev pub invariant-loop-i : goal.invariant-loop-i
invariant-loop-i l = Going l.s l.initial.out l.at l.past l.i l.out

abbrev pub decreases-loop-i : goal.decreases-loop-i
decreases-loop-i l = length l.s - l.i
