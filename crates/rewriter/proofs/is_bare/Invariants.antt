-- `rewriter::is_bare` meets its contract.
use mathlib.Core.Path.{◌≡◌}
use mathlib.Core.Bool.{◌&&◌}
use Rattle.std.specs.Iterator.Adapters.{zip_first, zip_second}
use Rattle.std.specs.Slice.Iter.{iter_rest}
use Rattle.rewriter.specs.Run.{bare_in}
use Rattle.rewriter.proofs.is_bare.Given as goal

-- what is found in the bytes passed and the bytes left say together whether all are bare
abbrev pub invariant-loop-b : goal.invariant-loop-b
invariant-loop-b l = l.none && bare_in (iter_rest (zip_first l.b-iterator)) (iter_rest (zip_second l.b-iterator)) ≡ bare_in l.bytes l.next
