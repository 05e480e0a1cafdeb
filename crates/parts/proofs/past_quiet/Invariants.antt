-- `parts::past_quiet` meets its contract.
use mathlib.Core.Path.{◌≡◌}
use mathlib.Core.List.{List}
use Prim.Native.Nat.{ℕ, ◌+◌}
use lib.ListN.{drop}
use Rattle.std.specs.Iterator.Adapters.{zip_first, zip_second}
use Rattle.std.specs.Slice.Iter.{chunks_exact_rest, chunks_exact_size}
use Rattle.parts.specs.Mark.{Passed}
use Rattle.parts.proofs.past_quiet.Given as goal

-- the blocks that are left begin at the byte at, those ahead of them five bytes further
pub record Going (file : List ℕ) (from before at lines n m : ℕ) (k l : List ℕ) : Type 0 where
  pub passed : Passed file from before (record { at = at; lines = lines })
  pub size : n ≡ 64
  pub same : m ≡ 64
  pub rest : drop at file ≡ k
  pub ahead : drop (at + 5) file ≡ l

abbrev pub invariant-loop-block : goal.invariant-loop-block
invariant-loop-block l =
    Going l.file l.from l.before l.at l.lines (chunks_exact_size (zip_first l.block-iterator)) (chunks_exact_size (zip_second l.block-iterator))
    (chunks_exact_rest (zip_first l.block-iterator)) (chunks_exact_rest (zip_second l.block-iterator))
