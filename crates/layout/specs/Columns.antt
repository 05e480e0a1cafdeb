-- Where the fields of a line stand, from their widths; columns are counted from 0.
use Rattle.std.specs.Prelude.{List, [], ◌∷◌, ℕ, zero, suc, ◌+◌, ◌/◌, ◌%◌, get_or}

-- the first column of field k: the widths before it
unfoldable pub field_start : List ℕ → ℕ → ℕ
field_start ws zero = 0
field_start [] (suc k) = 0
field_start (w ∷ ws) (suc k) = w + field_start ws k

-- the column past field k
unfoldable pub field_past : List ℕ → ℕ → ℕ
field_past ws k = field_start ws k + get_or ws k 0

-- the columns of all fields together
unfoldable pub total : List ℕ → ℕ
total [] = 0
total (w ∷ ws) = w + total ws

-- "With n fields in a full line .., stored number j has as its own columns those of field j mod n on data line j / n (whole
-- part), all from 0"
unfoldable pub line_of : ℕ → ℕ → ℕ
line_of n j = j / n

unfoldable pub field_of : ℕ → ℕ → ℕ
field_of n j = j % n
