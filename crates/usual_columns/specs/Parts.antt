-- A record's line in its usual spelling, part by part: its fields, what their columns take, and which of them are asked by themselves. The
-- records are 58's lines 6 to 11 (01, "Records").
use Rattle.std.specs.Prelude.{◌≡◌, ℕ, ◌+◌, ◌-◌, ◌%◌, Bool, true, ◌&&◌, List, [], ◌∷◌, ◌++◌, length, take, drop, replicate, nat_eq, nat_le}
use Prim.{Unit}
use Rattle.laws.specs.Ranges.{all_are}
use Rattle.codes.specs.Rule.{Rule}
use Rattle.codes.specs.Rule as rule
use Rattle.codes.specs.Form.{integer, never, function_type, direction, ordinate_type, count, spacing, data_type}
use Rattle.field.specs.Field.{may_blank, field_number}
use Rattle.record_table.specs.Row.{Field}
use Rattle.record_table.specs.Records.{A, X, E, I}
use Rattle.usual_columns.specs.declared.Cell.{Cell}
use Rattle.usual_columns.specs.Cells.{cell, blank, minus, digit, field_cells}

-- any byte that may stand in a column
abbrev pub printable : Cell
printable = cell 32 94 32

pub data Part : Type 0 where
  -- skipped columns, a text, and a real with the letter E, by their widths
  skipped : ℕ → Part
  text : ℕ → Part
  real : ℕ → Part
  -- an integer: so many blanks, then columns that take just what its rule lets pass
  coded : ℕ → Rule → List Cell → Part
  -- an integer that is asked by itself
  asked : ℕ → Rule → Part

abbrev pub field_of : Part → Field
field_of (skipped w) = X w
field_of (text w) = A w
field_of (real w) = E w
field_of (coded n r cs) = I (n + length cs) r
field_of (asked w r) = I w r

-- what its columns take
abbrev pub cells_of : Part → List Cell
cells_of (skipped w) = replicate w blank
cells_of (text w) = replicate w printable
cells_of (real w) = field_cells 69 9 w
cells_of (coded n r cs) = replicate n blank ++ cs
cells_of (asked w r) = replicate w printable

unfoldable pub parts_cells : List Part → List Cell
parts_cells [] = []
parts_cells (p ∷ ps) = cells_of p ++ parts_cells ps

-- a line: its parts, then blanks
unfoldable pub record_cells : List Part → List Cell
record_cells ps = parts_cells ps ++ replicate (80 - length (parts_cells ps)) blank

-- whether all that columns take passes a test
unfoldable pub all_taken : Cell → (ℕ → Bool) → Bool
all_taken c f = f c.alt && all_are (λ (r : ℕ). f ((r + c.lo) % 256)) true 0 (c.span + 1)

unfoldable pub all_fit : List Cell → (List ℕ → Bool) → Bool
all_fit [] f = f []
all_fit (c ∷ cs) f = all_taken c (λ (b : ℕ). all_fit cs (λ (l : List ℕ). f (b ∷ l)))

-- whether what fits a part's columns is sure to pass
abbrev pub is_sure : Part → Bool
is_sure (skipped w) = true
is_sure (text w) = true
is_sure (real w) = nat_le 9 w && nat_le w 25
is_sure (coded n r cs) = all_fit cs (λ (l : List ℕ). nat_eq (field_number (integer r never) (may_blank (integer r never) []) (replicate n 32 ++ l)) 0)
is_sure (asked w r) = true

unfoldable pub all_sure : List Part → Bool
all_sure [] = true
all_sure (p ∷ ps) = is_sure p && all_sure ps

-- those that are asked pass, from a column on
abbrev pub PassesAt : Field → ℕ → List ℕ → Type 0
PassesAt f at line = field_number f.form (may_blank f.form line) (take f.width (drop at line)) ≡ 0

abbrev pub AskedAt : Part → ℕ → List ℕ → Type 0
AskedAt (skipped w) at line = Unit
AskedAt (text w) at line = Unit
AskedAt (real w) at line = Unit
AskedAt (coded n r cs) at line = Unit
AskedAt (asked w r) at line = PassesAt (I w r) at line

unfoldable pub Asked : List Part → ℕ → List ℕ → Type 0
Asked [] at line = Unit
Asked (p ∷ ps) at line = AskedAt p at line × Asked ps (at + (field_of p).width) line

-- a blank or a 1; a digit to 6; 2, 4, 5 or 6; 0 or 1
abbrev blank_or_one : Cell
blank_or_one = cell 32 0 49

abbrev to_six : Cell
to_six = cell 48 6 48

abbrev ordinate : Cell
ordinate = cell 52 2 50

abbrev zero_or_one : Cell
zero_or_one = cell 48 1 48

-- 58's line 6: the function types to 19, the directions, and an integer of one digit by their columns; integers of ten columns are asked
unfoldable pub function_parts : List Part
function_parts =
    coded 3 function_type (blank_or_one ∷ digit ∷ []) ∷ asked 10 rule.any ∷ coded 4 rule.any (digit ∷ []) ∷ asked 10 rule.any
    ∷ skipped 1 ∷ text 10 ∷ asked 10 rule.any ∷ coded 2 direction (minus ∷ to_six ∷ [])
    ∷ skipped 1 ∷ text 10 ∷ asked 10 rule.any ∷ coded 2 direction (minus ∷ to_six ∷ []) ∷ []

-- 58's line 7: the count is asked
unfoldable pub data_parts : List Part
data_parts =
    coded 9 ordinate_type (ordinate ∷ []) ∷ asked 10 count ∷ coded 9 spacing (zero_or_one ∷ [])
    ∷ real 13 ∷ real 13 ∷ real 13 ∷ []

-- 58's lines 8 to 11: the data type is asked
unfoldable pub axis_parts : List Part
axis_parts =
    asked 10 data_type ∷ coded 4 rule.any (digit ∷ []) ∷ coded 4 rule.any (digit ∷ []) ∷ coded 4 rule.any (digit ∷ [])
    ∷ skipped 1 ∷ text 20 ∷ skipped 1 ∷ text 20 ∷ []
