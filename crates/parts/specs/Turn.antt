-- A loop over the sets of a file: where it stands between two of them, and one turn.
use Rattle.std.specs.Prelude.{◌≡◌, Option, List, ℕ, ◌≤◌, ◌<◌, length}
use Rattle.parts.specs.declared.Extent.{Extent}
use Rattle.parts.specs.Scan.{first_of, First}
use Rattle.parts.specs.Set.{remaining, Standing}

-- outside sets at the byte at, which n lines come before; e says where the next set stands, or that none is left
pub record Between (file : List ℕ) (n at : ℕ) (e : Option Extent) : Type 0 where
  pub within : at ≤ length file
  pub lines : n ≤ at
  pub next : e ≡ first_of (remaining file n at)

-- a set that is found, from the byte at on, which n lines come before; how it stands, and what is left after it
pub record Turn (file : List ℕ) (n at : ℕ) (e : Extent) : Type 0 where
  pub first : First (remaining file n at) e
  pub stands : Standing file n at first.set first.others
  pub body : e.body ≤ length file
  pub last : e.last ≤ length file
  pub onward : at < e.past
  pub within : e.past ≤ length file
  pub lines : e.through ≤ e.past
  pub others : first.others ≡ remaining file e.through e.past
