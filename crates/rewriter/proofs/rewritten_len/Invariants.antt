-- `rewriter::rewritten_len` meets its contract.
use mathlib.Core.Path.{◌≡◌}
use mathlib.Core.List.{List}
use Prim.Native.Nat.{ℕ, ◌+◌, ◌-◌}
use lib.ListN.{length}
use Rattle.parts.specs.Scan.{first_of}
use Rattle.parts.specs.Set.{remaining}
use Rattle.parts.specs.Turn.{Between}
use Rattle.rewriter.specs.Rewriter.{rewritten, rewritten_file}
use Rattle.rewriter.proofs.rewritten_len.Given as goal

-- n is the length of the sets passed
pub record Measured (file : List ℕ) (n lines at : ℕ) : Type 0 where
  pub between : Between file lines at (first_of (remaining file lines at))
  pub measured : n + length (rewritten (remaining file lines at)) ≡ length (rewritten_file file)

abbrev pub invariant-loop-set : goal.invariant-loop-set
invariant-loop-set l = Measured l.file l.n l.lines l.at

abbrev pub decreases-loop-set : goal.decreases-loop-set
decreases-loop-set l = length l.file - l.at
