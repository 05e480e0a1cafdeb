-- Lines in their usual spelling, by what each column takes (01, "Lines and sets"; "A real field is blanks, an optional sign, digits with
-- one point .., a letter E, e, D or d, a sign, two or three digits, reaching the last column").
use Rattle.std.specs.Prelude.{◌≡◌, ℕ, ◌+◌, ◌-◌, ◌%◌, ◌<◌, ◌≤◌, ◌⊎◌, List, [], ◌∷◌, ◌++◌, map, length, replicate, slice_index}
use Rattle.layout.specs.Columns.{total}
use Rattle.usual_columns.specs.declared.Cell.{Cell}
use Rattle.usual_columns.specs.declared.Tables.{Tables}

-- what a column takes: the bytes from lo to as far as span past it, and alt
abbrev pub cell : ℕ → ℕ → ℕ → Cell
cell l s a = record { lo = l; span = s; alt = a }

-- from lo on bytes are counted modulo 256
abbrev pub Takes : Cell → ℕ → Type 0
Takes c b = ((r : ℕ) × (r ≤ c.span) × ((r + c.lo) % 256 ≡ b)) ⊎ (b ≡ c.alt)

-- a blank; a blank or a minus; a digit; a digit up to the one given; the point; the letter given; a sign; any byte
abbrev pub blank : Cell
blank = cell 32 0 32

abbrev pub minus : Cell
minus = cell 32 0 45

abbrev pub digit : Cell
digit = cell 48 9 48

abbrev pub digit_to : ℕ → Cell
digit_to m = cell 48 m 48

abbrev pub point : Cell
point = cell 46 0 46

abbrev pub lettered : ℕ → Cell
lettered b = cell b 0 b

abbrev pub sign : Cell
sign = cell 43 0 45

abbrev pub any : Cell
any = cell 0 255 0

-- a real field of a width from 9 on: a blank, a blank or a minus, a digit, the point, digits, the letter b, a sign, two digits, of which the
-- first is at most m
abbrev pub start_cells : List Cell
start_cells = blank ∷ minus ∷ digit ∷ point ∷ []

abbrev pub exponent_cells : ℕ → ℕ → List Cell
exponent_cells b m = lettered b ∷ sign ∷ digit_to m ∷ digit ∷ []

unfoldable pub field_cells : ℕ → ℕ → ℕ → List Cell
field_cells b m w = start_cells ++ (replicate (w - 8) digit ++ exponent_cells b m)

-- the fields of a row, by their widths
unfoldable pub row_cells : ℕ → ℕ → List ℕ → List Cell
row_cells b m [] = []
row_cells b m (w ∷ ws) = field_cells b m w ++ row_cells b m ws

-- a line of n columns: the row's fields, and blanks
unfoldable pub line_cells : ℕ → ℕ → List ℕ → ℕ → List Cell
line_cells b m ws n = row_cells b m ws ++ replicate (n - total ws) blank

-- the same in tables of 80 columns
unfoldable pub table_cells : ℕ → ℕ → List ℕ → ℕ → List Cell
table_cells b m ws n = line_cells b m ws n ++ replicate (80 - n) any

-- the widths that a field of the usual spelling may have: its digits are at most 18
pub data Wide : List ℕ → Type 0 where
  none : Wide []
  more : {w : ℕ} {ws : List ℕ} → 9 ≤ w → w ≤ 25 → Wide ws → Wide (w ∷ ws)

-- each column takes its byte
pub data Fits : List Cell → List ℕ → Type 0 where
  none : Fits [] []
  more : {c : Cell} {b : ℕ} {cs : List Cell} {bs : List ℕ} → Takes c b → Fits cs bs → Fits (c ∷ cs) (b ∷ bs)

-- the code's tables
abbrev pub tables : List ℕ → List ℕ → List ℕ → Tables
tables l s a = record { lo = l; span = s; alt = a }

-- a table of 80 numbers: these, and then only the one given
pub record Begins (ns : List ℕ) (d : ℕ) (l : List ℕ) : Type 0 where
  pub few : length ns ≤ 80
  pub is : l ≡ ns ++ replicate (80 - length ns) d

-- the first columns of the tables take this, the others a digit
pub record Laid (cs : List Cell) (t : Tables) : Type 0 where
  pub los_are : Begins (map (λ (c : Cell). c.lo) cs) digit.lo t.lo
  pub spans_are : Begins (map (λ (c : Cell). c.span) cs) digit.span t.span
  pub alts_are : Begins (map (λ (c : Cell). c.alt) cs) digit.alt t.alt

-- the columns from the place given on take more, those before it what they took
abbrev pub Grown : ℕ → List Cell → Tables → Tables → Type 0
Grown at new t t' = (cs : List Cell) → length cs ≡ at → Laid cs t → Laid (cs ++ new) t'

-- the first n columns from a byte on are taken by the tables
unfoldable pub Passed : Tables → List ℕ → ℕ → ℕ → Type 0
Passed t s at n = (k : ℕ) → k < n → Takes (cell (slice_index t.lo k) (slice_index t.span k) (slice_index t.alt k)) (slice_index s (at + k))
