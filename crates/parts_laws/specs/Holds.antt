-- The sets of a list as they stand in a text, each with its own lines.
use Rattle.std.specs.Prelude.{◌≡◌, true, false, List, [], ◌∷◌, ◌++◌, map, ℕ, ◌+◌, length}
use Rattle.line.specs.Line.{columns}
use Rattle.delimiter.specs.Kind.{Delimiter, NumberLine}
use Rattle.theory.specs.Sets.{Set}
use Rattle.theory.specs.Proper.{SetLines, BlankLines}
use Rattle.line_laws.specs.Short.{Short}
use Rattle.parts.specs.Parts.{columns_in, bytes_in, Part, past_of, through_of, closes}

-- the columns of lines, their ends left out
abbrev pub columns_of : List (List ℕ) → List (List ℕ)
columns_of ls = map (columns true) ls

-- the part of a text that is a set: its delimiters, its number line, its lines, of at most 80 columns
pub record Holds (s : Set) (p : Part) : Type 0 where
  pub opening : Delimiter (columns_in p.opening)
  pub number : NumberLine s.number (columns_in p.number)
  pub lines : SetLines s (columns_of p.body)
  pub closing : Delimiter (columns_in p.closing)
  pub short : Short (columns_of p.body)

-- sets in order, each the part of a text at its place: lines that n lines and at bytes come before are blank lines, the part's own,
-- and so on; after the last only blank lines
pub data AtPlaces : ℕ → ℕ → List Set → List Part → List (List ℕ) → Type 0 where
  end : {n at : ℕ} {ls : List (List ℕ)} → BlankLines (columns_of ls) → AtPlaces n at [] [] ls
  more : {n at : ℕ} {s : Set} {ss : List Set} {p : Part} {ps : List Part} (before after : List (List ℕ)) → BlankLines (columns_of before)
      → p.lines ≡ n + length before → p.bytes ≡ at + bytes_in before → Holds s p → AtPlaces (through_of p) (past_of p) ss ps after
      → AtPlaces n at (s ∷ ss) (p ∷ ps) (before ++ (p.opening ∷ p.number ∷ (p.body ++ (p.closing ∷ after))))

-- no line is a delimiter
pub data Open : List (List ℕ) → Type 0 where
  none : Open []
  more : {l : List ℕ} {ls : List (List ℕ)} → closes l ≡ false → Open ls → Open (l ∷ ls)
