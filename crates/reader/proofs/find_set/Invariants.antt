-- `reader::find_set` meets its contract.
use mathlib.Core.Path.{◌≡◌}
use mathlib.Core.List.{List}
use Prim.Native.Nat.{ℕ}
use lib.ListN.{drop}
use Rattle.parts.specs.Parts.{parts_of}
use Rattle.parts.specs.Scan.{first_of}
use Rattle.parts.specs.Set.{remaining}
use Rattle.parts.specs.Turn.{Between}
use Rattle.reader.proofs.find_set.Given as goal

-- so many sets are passed
pub record Passed (file : List ℕ) (i before at : ℕ) : Type 0 where
  pub between : Between file before at (first_of (remaining file before at))
  pub left : drop i (parts_of file) ≡ remaining file before at

abbrev pub invariant-loop : goal.invariant-loop
invariant-loop l = Passed l.file l.counter l.before l.at
