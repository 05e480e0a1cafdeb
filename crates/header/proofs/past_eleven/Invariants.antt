-- `header::past_eleven` meets its contract.
use mathlib.Core.Path.{◌≡◌}
use mathlib.Core.List.{[], List}
use Prim.Native.Nat.{ℕ, ◌≤◌}
use lib.ListN.{length, take}
use Rattle.laws.specs.Cut.{cut}
use Rattle.record_table.specs.TypedSets.{header_lines}
use Rattle.header.proofs.past_eleven.Given as goal

-- so many whole lines are passed
pub record Going (header : List ℕ) (lines at : ℕ) : Type 0 where
  pub within : at ≤ length header
  pub few : lines ≤ header_lines
  pub lines_are : length (cut (take at header)).lines ≡ lines
  pub whole : (cut (take at header)).rest ≡ []

abbrev pub invariant-loop : goal.invariant-loop
invariant-loop l = Going l.header l.counter l.at
