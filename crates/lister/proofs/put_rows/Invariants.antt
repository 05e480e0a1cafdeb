-- `lister::put_rows` meets its contract.
use mathlib.Core.Path.{◌≡◌}
use mathlib.Core.List.{List, ◌++◌}
use Prim.Native.Nat.{ℕ, ◌≤◌, ◌+◌, ◌*◌}
use lib.ListN.{length, take, drop}
use Rattle.parts.specs.Parts.{parts_of}
use Rattle.parts.specs.Set.{remaining}
use Rattle.lister.specs.Lister.{row_numbers, rows_of}
use Rattle.lister.specs.Listed.{AllComplete}
use Rattle.lister.proofs.put_rows.Given as goal

-- the rows up to place i are laid out, the places from there on are as they were; the sets that are left begin after so many lines and bytes
pub record Laid (file rows₀ rows : List ℕ) (i lines at : ℕ) : Type 0 where
  pub within : at ≤ length file
  pub few : lines ≤ at
  pub complete : AllComplete (remaining file lines at)
  pub same : length rows ≡ length rows₀
  pub left : i + row_numbers * length (remaining file lines at) ≡ row_numbers * length (parts_of file)
  pub laid : take i rows ++ rows_of (remaining file lines at) ≡ rows_of (parts_of file)
  pub kept : drop i rows ≡ drop i rows₀

abbrev pub invariant-loop-k : goal.invariant-loop-k
invariant-loop-k l = Laid l.file l.initial.rows l.rows (row_numbers * l.k) l.lines l.at
