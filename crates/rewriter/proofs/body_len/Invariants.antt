-- `rewriter::body_len` meets its contract.
use mathlib.Core.Path.{◌≡◌}
use mathlib.Core.List.{List}
use Prim.Native.Nat.{ℕ, ◌≤◌, ◌+◌, ◌-◌}
use lib.ListN.{length}
use Rattle.rewriter.specs.Body.{body_text}
use Rattle.rewriter.proofs.body_len.Given as goal

-- the lines before the byte at are measured
pub record Measured (file : List ℕ) (from closing n at : ℕ) : Type 0 where
  pub within : at ≤ length file
  pub measured : n + length (body_text closing at file) ≡ length (body_text closing from file)
  pub began : from ≤ length file

abbrev pub invariant-loop-at : goal.invariant-loop-at
invariant-loop-at l = Measured l.file l.from l.closing l.n l.at

abbrev pub decreases-loop-at : goal.decreases-loop-at
decreases-loop-at l = length l.file - l.at
