-- Lists of sets (01, "Lines and sets": "A list of sets holds each set's number, and a typed set's texts, integers (or that they
-- are blank) and reals (sign, coefficient, scale) or a plain set's lines").
use Rattle.std.specs.Prelude.{List, [], ℕ, get_or}
use Rattle.field.specs.Item.{Item}
use Rattle.record.specs.Declares.{natural_at}

-- a set: its number, and the items of its lines; a plain set's line is one text
pub record Set : Type 0 where
  pub number : ℕ
  pub lines : List (List Item)

abbrev pub set : ℕ → List (List Item) → Set
set n ls = record { number = n; lines = ls }

-- the number at a place of a line, both from 0
unfoldable pub number_at : List (List Item) → ℕ → ℕ → ℕ
number_at ls line place = natural_at (get_or ls line []) place
