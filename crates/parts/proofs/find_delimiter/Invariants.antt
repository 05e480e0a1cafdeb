-- `parts::find_delimiter` meets its contract.
use mathlib.Core.Path.{◌≡◌}
use mathlib.Core.List.{List}
use Prim.Native.Nat.{ℕ, ◌+◌, ◌≤◌, ◌-◌}
use lib.ListN.{length, drop}
use Rattle.laws.specs.Cut.{line_len}
use Rattle.parts.specs.Mark.{marked}
use Rattle.parts.proofs.find_delimiter.Given as goal

-- no delimiter comes before the byte at, and the line there ends at the byte end
pub record Going (file : List ℕ) (from before at lines end : ℕ) : Type 0 where
  pub within : at ≤ length file
  pub ends : end ≡ at + line_len (drop at file)
  pub inside : end ≤ length file
  pub few : lines ≤ at
  pub same : marked file lines at ≡ marked file before from

abbrev pub invariant-loop-end : goal.invariant-loop-end
invariant-loop-end l = Going l.file l.from l.before l.at l.lines l.end

abbrev pub decreases-loop-end : goal.decreases-loop-end
decreases-loop-end l = length l.file - l.at
