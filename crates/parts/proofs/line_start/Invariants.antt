-- `parts::line_start` meets its contract.
use mathlib.Core.Path.{◌≡◌}
use mathlib.Core.List.{List}
use Prim.Native.Nat.{ℕ, ◌≤◌, ◌-◌}
use lib.ListN.{length, drop}
use Rattle.laws.specs.Cut.{cut}
use Rattle.parts.specs.Scan.{skip_to}
use Rattle.parts.proofs.line_start.Given as goal

-- i lines are skipped, the next begins at the byte at
pub record Skipped (file : List ℕ) (from closing k at i : ℕ) : Type 0 where
  pub within : at ≤ length file
  pub same : skip_to (k - i) closing at (cut (drop at file)).lines ≡ skip_to k closing from (cut (drop from file)).lines

abbrev pub invariant-loop : goal.invariant-loop
invariant-loop l = Skipped l.file l.from l.closing l.k l.at l.counter
