-- A set as it stands in a file: among its lines, from a byte on, and anywhere.
use Rattle.std.specs.Prelude.{◌≡◌, List, ◌∷◌, ◌++◌, ℕ, ◌+◌, ◌-◌, ◌≤◌, ◌<◌, length, drop}
use Rattle.laws.specs.Cut.{cut}
use Rattle.parts.specs.Parts.{bytes_in, Part, outside, parts_from, line_start, closing_start, past_of, through_of}

-- the first of these sets among lines, which n lines and at bytes come before
pub record Among (n at : ℕ) (ls : List (List ℕ)) (p : Part) (ps : List Part) : Type 0 where
  pub before : List (List ℕ)
  pub more : List (List ℕ)
  pub lines : ls ≡ before ++ (p.opening ∷ p.number ∷ (p.body ++ (p.closing ∷ more)))
  pub count : p.lines ≡ n + length before
  pub bytes : p.bytes ≡ at + bytes_in before
  pub rest : ps ≡ parts_from outside (through_of p) (past_of p) more

-- the sets of a file from the byte at on, which n lines come before
abbrev pub remaining : List ℕ → ℕ → ℕ → List Part
remaining file n at = parts_from outside n at (cut (drop at file)).lines

-- the first of them: its lines, and those after it, by their bytes
pub record Standing (file : List ℕ) (n at : ℕ) (p : Part) (ps : List Part) : Type 0 where
  pub more : List (List ℕ)
  pub count : through_of p ≤ n + (past_of p - at)
  pub from : at ≤ p.bytes
  pub inside : line_start p 0 ≤ length file
  pub own : (cut (drop (line_start p 0) file)).lines ≡ p.body ++ (p.closing ∷ more)
  pub later : closing_start p < past_of p
  pub past : past_of p ≤ length file
  pub rest : ps ≡ remaining file (through_of p) (past_of p)

-- every set of a file stands in it
pub record Somewhere (file : List ℕ) (p : Part) (ps : List Part) : Type 0 where
  pub before : ℕ
  pub from : ℕ
  pub stands : Standing file before from p ps
