-- The sets of a file as they stand in it, parted by its delimiters alone (01, "Lines and sets": "A set is a delimiter, a number line ..,
-- its lines, a delimiter"). A line is given by the bytes before its LF.
use Rattle.std.specs.Prelude.{Bool, true, List, [], ◌∷◌, ◌++◌, ◌≡◌, ℕ, suc, ◌+◌, ◌-◌, ◌≤◌, eqb, length, get_or, take, drop}
use Rattle.laws.specs.Choice.{pick}
use Rattle.laws.specs.Cut.{cut}
use Rattle.line.specs.Line.{columns, filled}
use Rattle.delimiter.specs.Kind.{is_delimiter, dataset_number}

-- the columns of a line that it has bytes for
abbrev pub shown : List ℕ → List ℕ
shown l = take 80 (columns true l)

-- the 80 columns of a line
abbrev pub columns_in : List ℕ → List ℕ
columns_in l = filled (columns true l)

-- whether a line is a delimiter
unfoldable pub closes : List ℕ → Bool
closes l = is_delimiter (columns_in l)

-- the bytes of lines, with their LFs
unfoldable pub bytes_in : List (List ℕ) → ℕ
bytes_in [] = 0
bytes_in (l ∷ ls) = suc (length l) + bytes_in ls

-- a set as it stands: how many lines and how many bytes come before it, and its lines: a delimiter, the number line, its own, a delimiter
pub record Part : Type 0 where
  pub lines : ℕ
  pub bytes : ℕ
  pub opening : List ℕ
  pub number : List ℕ
  pub body : List (List ℕ)
  pub closing : List ℕ

abbrev pub part : ℕ → ℕ → List ℕ → List ℕ → List (List ℕ) → List ℕ → Part
part n at o v ls c = record { lines = n; bytes = at; opening = o; number = v; body = ls; closing = c }

-- where a file stands between two lines: outside sets; after an opening delimiter; inside a set, with its lines so far
pub data PartState : Type 0 where
  outside : PartState
  opened : ℕ → ℕ → List ℕ → PartState
  inside : ℕ → ℕ → List ℕ → List ℕ → List (List ℕ) → PartState

-- after one line more, which n lines and at bytes come before
abbrev pub next : PartState → ℕ → ℕ → List ℕ → PartState
next outside n at l = pick (closes l) (opened n at l) outside
next (opened m b o) n at l = inside m b o l []
next (inside m b o v ls) n at l = pick (closes l) outside (inside m b o v (ls ++ (l ∷ [])))

-- the set that this line closes, if it closes one
abbrev pub ended : PartState → List ℕ → List Part
ended outside l = []
ended (opened m b o) l = []
ended (inside m b o v ls) l = pick (closes l) (part m b o v ls l ∷ []) []

-- the sets of lines, which n lines and at bytes come before
unfoldable pub parts_from : PartState → ℕ → ℕ → List (List ℕ) → List Part
parts_from s n at [] = []
parts_from s n at (l ∷ ls) = ended s l ++ parts_from (next s n at l) (suc n) (at + suc (length l)) ls

-- the sets of a file
unfoldable pub parts_of : List ℕ → List Part
parts_of file = parts_from outside 0 0 (cut file).lines

-- its dataset number
unfoldable pub dataset_of : Part → ℕ
dataset_of p = dataset_number (columns_in p.number)

-- the first byte of its line k, from 0
unfoldable pub line_start : Part → ℕ → ℕ
line_start p k = (p.bytes + bytes_in (p.opening ∷ p.number ∷ [])) + bytes_in (take k p.body)

-- the 80 columns of its line k
unfoldable pub line_of : Part → ℕ → List ℕ
line_of p k = columns_in (get_or p.body k [])

-- its last line, 0 if it has none, and the first byte of that
abbrev pub last_line : Part → ℕ
last_line p = length p.body - 1

unfoldable pub last_start : Part → ℕ
last_start p = line_start p (last_line p)

-- the first byte of its closing delimiter
unfoldable pub closing_start : Part → ℕ
closing_start p = (p.bytes + bytes_in (p.opening ∷ p.number ∷ [])) + bytes_in p.body

-- the byte past its closing line, and how many lines there are up to it
unfoldable pub past_of : Part → ℕ
past_of p = p.bytes + bytes_in (p.opening ∷ p.number ∷ (p.body ++ (p.closing ∷ [])))

unfoldable pub through_of : Part → ℕ
through_of p = p.lines + length (p.opening ∷ p.number ∷ (p.body ++ (p.closing ∷ [])))

-- whether it is a 58
abbrev pub is_function : Part → Bool
is_function p = eqb (dataset_of p) 58

-- the lines of a file from the byte at on, past those given
pub record Past (f : List ℕ) (at : ℕ) (pre post : List (List ℕ)) : Type 0 where
  pub within : at + bytes_in pre ≤ length f
  pub lines : (cut (drop (at + bytes_in pre) f)).lines ≡ post
