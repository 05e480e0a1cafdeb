-- What the reply 0 says of a file's bytes, by the reader.
use Rattle.std.specs.Prelude.{◌≡◌, true, List, [], map, ℕ, ◌≤◌, length}
use Rattle.laws.specs.Cut.{cut}
use Rattle.line.specs.Line.{columns}
use Rattle.theory.specs.Sets.{Set}
use Rattle.line_laws.specs.Ends.{AllPass}
use Rattle.judge_laws.specs.ListReader.{outside, read_lines}

-- a file of n lines, not too long, whose lines end and pass, and are read as at least one set
pub record Accepted (bytes : List ℕ) (n : ℕ) : Type 0 where
  pub short : length bytes ≤ 16777216
  pub ended : (cut bytes).rest ≡ []
  pub pass : AllPass (cut bytes).lines
  pub lines : n ≡ length (cut bytes).lines
  pub sets : List Set
  pub read : read_lines (outside []) (map (columns true) (cut bytes).lines) ≡ outside sets
  pub some : 1 ≤ length sets
