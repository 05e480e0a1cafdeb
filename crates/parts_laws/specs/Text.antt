-- The lines of a set as they stand in a file.
use Rattle.std.specs.Prelude.{◌≡◌, List, [], ◌∷◌, ◌++◌, ℕ, ◌+◌, length}
use Rattle.parts.specs.Parts.{Part, bytes_in}

-- a set's lines, its delimiters and its number line among them
abbrev pub lines_of : Part → List (List ℕ)
lines_of p = p.opening ∷ p.number ∷ (p.body ++ (p.closing ∷ []))

-- where a set stands among lines, which n lines and at bytes come before
pub record Cut (n at : ℕ) (p : Part) (ls : List (List ℕ)) : Type 0 where
  pub before : List (List ℕ)
  pub after : List (List ℕ)
  pub whole : ls ≡ before ++ (lines_of p ++ after)
  pub bytes : p.bytes ≡ at + bytes_in before
  pub lines : p.lines ≡ n + length before
