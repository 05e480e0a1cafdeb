-- `rewriter::put_sets` meets its contract.
use mathlib.Core.List.{List}
use Prim.Native.Nat.{ℕ, ◌-◌}
use lib.ListN.{length}
use Rattle.output.specs.Output.{Put}
use Rattle.parts.specs.Scan.{first_of}
use Rattle.parts.specs.Set.{remaining}
use Rattle.parts.specs.Turn.{Between}
use Rattle.rewriter.specs.Rewriter.{rewritten, rewritten_file}
use Rattle.rewriter.proofs.put_sets.Given as goal

-- the sets passed are put, those left are still to come
pub record Going (file out₀ : List ℕ) (past lines from : ℕ) (out : List ℕ) : Type 0 where
  pub between : Between file lines from (first_of (remaining file lines from))
  pub put : Put 0 (rewritten_file file) out₀ past (rewritten (remaining file lines from)) out

abbrev pub invariant-loop-set : goal.invariant-loop-set
invariant-loop-set l = Going l.file l.initial.out l.past l.lines l.from l.out

abbrev pub decreases-loop-set : goal.decreases-loop-set
decreases-loop-set l = length l.file - l.from
