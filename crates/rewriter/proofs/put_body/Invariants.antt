-- `rewriter::put_body` meets its contract.
use mathlib.Core.List.{List}
use Prim.Native.Nat.{ℕ, ◌≤◌, ◌-◌}
use lib.ListN.{length}
use Rattle.output.specs.Output.{Put}
use Rattle.rewriter.specs.Body.{body_text}
use Rattle.rewriter.proofs.put_body.Given as goal

-- the lines before the byte line are put, the others are still to come
pub record Going (file out₀ : List ℕ) (at from closing past line : ℕ) (out : List ℕ) : Type 0 where
  pub within : line ≤ length file
  pub put : Put at (body_text closing from file) out₀ past (body_text closing line file) out

abbrev pub invariant-loop-line : goal.invariant-loop-line
invariant-loop-line l = Going l.file l.initial.out l.at l.from l.closing l.past l.line l.out

abbrev pub decreases-loop-line : goal.decreases-loop-line
decreases-loop-line l = length l.file - l.line
