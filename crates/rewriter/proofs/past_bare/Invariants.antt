-- `rewriter::past_bare` meets its contract.
use mathlib.Core.Path.{◌≡◌}
use mathlib.Core.List.{List}
use Prim.Native.Nat.{ℕ, ◌+◌}
use lib.ListN.{take, drop}
use Rattle.std.specs.Iterator.Adapters.{zip_first, zip_second}
use Rattle.std.specs.Slice.Iter.{chunks_exact_rest, chunks_exact_size}
use Rattle.rewriter.specs.Run.{Bared}
use Rattle.rewriter.proofs.past_bare.Given as goal

-- the blocks that are left begin at the byte at, those ahead of them one byte further
pub record Going (file : List ℕ) (from closing at n m : ℕ) (k l : List ℕ) : Type 0 where
  pub bared : Bared file from closing at
  pub size : n ≡ 64
  pub same : m ≡ 64
  pub rest : drop at (take closing file) ≡ k
  pub ahead : drop (at + 1) (take closing file) ≡ l

abbrev pub invariant-loop-block : goal.invariant-loop-block
invariant-loop-block l =
    Going l.file l.from l.closing l.at (chunks_exact_size (zip_first l.block-iterator)) (chunks_exact_size (zip_second l.block-iterator))
    (chunks_exact_rest (zip_first l.block-iterator)) (chunks_exact_rest (zip_second l.block-iterator))
