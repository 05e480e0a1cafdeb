-- The data lines number by number, and their length without the numbers, as the code goes over them.
use Rattle.std.specs.Prelude.{Bool, true, List, [], ◌∷◌, ◌++◌, ℕ, zero, suc, ◌+◌, eqb, ℤ, length}
use Rattle.laws.specs.Choice.{pick}
use Rattle.laws.specs.Cut.{cut}
use Rattle.decimal.specs.Decimal.{field_text}
use Rattle.layout.specs.Columns.{field_of}
use Rattle.layout.specs.Layout.{fields_of}
use Rattle.rewriter.specs.Rewriter.{lines_text}
use Rattle.writer.specs.Writer.{decimals_of, width_at}

-- whether an LF stands after number j, with n numbers after it
unfoldable pub ends_line : ℕ → ℕ → ℕ → Bool
ends_line c j zero = true
ends_line c j (suc n) = eqb (field_of (fields_of c) (suc j)) 0

-- number j in its columns
abbrev pub field_at : ℕ → ℕ → ℤ → ℤ → List ℕ
field_at c j x s = field_text (width_at c j) (decimals_of (width_at c j)) x s

-- with the LF after it
unfoldable pub stored_text : ℕ → ℕ → ℕ → ℤ → ℤ → List ℕ
stored_text c j n x s = field_at c j x s ++ pick (ends_line c j n) (10 ∷ []) []

-- its length, and that of n numbers from number j on
unfoldable pub stored_len : ℕ → ℕ → ℕ → ℕ
stored_len c j n = width_at c j + pick (ends_line c j n) 1 0

unfoldable pub data_len : ℕ → ℕ → ℕ → ℕ
data_len c j zero = 0
data_len c j (suc n) = stored_len c j n + data_len c (suc j) n

-- the length of the set of a header and n numbers
unfoldable pub set_len : List ℕ → ℕ → ℕ → ℕ
set_len header c n = (21 + length (lines_text (cut header).lines)) + data_len c 0 n
