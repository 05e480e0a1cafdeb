-- `parts::skip_blocks` meets its contract.
use mathlib.Core.Path.{◌≡◌}
use mathlib.Core.List.{List}
use Prim.Native.Nat.{ℕ}
use lib.ListN.{drop}
use Rattle.std.specs.Slice.Iter.{chunks_exact_rest, chunks_exact_size}
use Rattle.parts.specs.Skip.{Skipped}
use Rattle.parts.proofs.skip_blocks.Given as goal

-- the blocks that are left begin at the byte at
pub record Going (file : List ℕ) (from k at left n : ℕ) (l : List ℕ) : Type 0 where
  pub skipped : Skipped file from k at left
  pub size : n ≡ 64
  pub rest : drop at file ≡ l

abbrev pub invariant-loop-block : goal.invariant-loop-block
invariant-loop-block l = Going l.file l.from l.k l.at l.left (chunks_exact_size l.block-iterator) (chunks_exact_rest l.block-iterator)
