-- The lines of a set, by where it stands, are its own.
use Rattle.std.specs.Prelude.{◌≡◌, List, ℕ}
use Rattle.parts.specs.Scan.{line_from}
use Rattle.parts.specs.Parts.{Part, line_start, closing_start, line_of}
use Rattle.parts.specs.Set.{Standing}
use Rattle.parts.specs.SetLaws.{line_at_lem, line_columns}

pub line_from_own : (file : List ℕ) (n at : ℕ) (p : Part) (ps : List Part) → Standing file n at p ps → (k : ℕ)
    → line_from (closing_start p) (line_start p 0) file k ≡ line_of p k
unfolding line_from
line_from_own file n at p ps s k = rw (line_at_lem file n at p ps s k) (line_columns file n at p ps s k)
