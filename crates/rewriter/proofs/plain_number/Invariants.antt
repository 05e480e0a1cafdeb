-- `rewriter::plain_number` meets its contract.
use mathlib.Core.Path.{◌≡◌}
use mathlib.Core.List.{List, ◌++◌}
use Prim.Native.Nat.{ℕ}
use lib.ListN.{length, drop}
use Rattle.rewriter.specs.Rewriter.{plain_in, plain_number}
use Rattle.rewriter.proofs.plain_number.Given as goal

-- the columns from i on hold their digits, the others those of rest to come
pub record Going (row : List ℕ) (v i rest : ℕ) : Type 0 where
  pub wide : length row ≡ 6
  pub spelled : plain_in i rest ++ drop i row ≡ plain_number v

abbrev pub invariant-loop-i : goal.invariant-loop-i
invariant-loop-i l = Going l.row l.v l.i l.rest
