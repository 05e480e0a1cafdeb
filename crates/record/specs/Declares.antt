-- What 58's line 7 declares (01, "Records"): its case, from 0, its count of values, and with them how many numbers it stores; by the items of
-- the line, and by its columns. DeclaresLaws has that they agree.
use Rattle.std.specs.Prelude.{List, ℕ, ◌*◌, get_or}
use Rattle.integer.specs.Integer.{integer_of}
use Rattle.layout.specs.Layout.{case_for, numbers_of}
use Rattle.field.specs.Item.{Item, blank, natural}
use Rattle.field.specs.Field.{columns_of, integer_item}

-- the number at a place of a line's items, from 0; 0 where it is none, or one below zero
unfoldable pub natural_at : List Item → ℕ → ℕ
natural_at is k = natural (get_or is k blank)

unfoldable pub case_by : List Item → ℕ
case_by is = case_for (natural_at is 0) (natural_at is 2)

unfoldable pub count_by : List Item → ℕ
count_by is = natural_at is 1

unfoldable pub stored_by : List Item → ℕ
stored_by is = count_by is * numbers_of (case_by is)

-- the number of the integer in these columns of a line, 0 where they hold none, or one below zero
unfoldable pub number_in : ℕ → ℕ → List ℕ → ℕ
number_in a e line = natural (integer_item (integer_of (columns_of a e line)))

unfoldable pub case_in : List ℕ → ℕ
case_in line = case_for (number_in 0 10 line) (number_in 20 30 line)

unfoldable pub count_in : List ℕ → ℕ
count_in line = number_in 10 20 line

unfoldable pub stored_in : List ℕ → ℕ
stored_in line = count_in line * numbers_of (case_in line)
