-- A record's row: its fields in order, and what it asks of them together.
use Rattle.std.specs.Prelude.{List, [], ◌∷◌, ◌++◌, map, ℕ, ◌+◌, get_or, take, drop}
use Rattle.laws.specs.Choice.{pick}
use Rattle.codes.specs.Form.{Form}
use Rattle.layout.specs.Columns.{total}
use Rattle.field.specs.Item.{Item, is_zero_integer, is_zero_real, is_above_zero}

pub record Field : Type 0 where
  pub form : Form
  pub width : ℕ

-- the columns of fields together
abbrev pub span : List Field → ℕ
span fs = total (map (λ (f : Field). f.width) fs)

pub data Condition : Type 0 where
  -- nothing more
  none : Condition
  -- 58, line 7: "With spacing 0 minimum and increment are zero", by value: of any sign and scale
  zero_if_uneven : Condition
  -- 164: "factors for length, force, temperature, each above zero"
  above_zero : Condition

-- what may stand past a row's fields
pub data Remainder : Type 0 where
  -- blanks alone
  blanks : Remainder
  -- 02, C-13: "the full line's columns past the counted numbers are either all blank or all filled", by the fields of the full line that
  -- are left; none where the line is full
  padding : List Field → Remainder

pub record Row : Type 0 where
  pub fields : List Field
  pub remainder : Remainder
  pub condition : Condition

-- the fields of a remainder that may be filled
abbrev pub filling : Remainder → List Field
filling blanks = []
filling (padding fs) = fs

abbrev pub padding_fields : Row → List Field
padding_fields r = filling r.remainder

-- a row with its padding: the full line, past which there are blanks alone
abbrev pub with_padding : Row → Row
with_padding r = record { fields = r.fields ++ padding_fields r; remainder = blanks; condition = r.condition }

-- the fields that are cut off come before a remainder's own
abbrev pub cut_off : List Field → Remainder → Remainder
cut_off fs blanks = blanks
cut_off fs (padding ps) = padding (fs ++ ps)

-- "the last line holding what is left": only the first fields of a row
abbrev pub first_fields : ℕ → Row → Row
first_fields n r = record { fields = take n r.fields; remainder = cut_off (drop n r.fields) r.remainder; condition = r.condition }

-- the first item, counted from k, that is not above zero; 0 where all are
unfoldable pub first_not_above : ℕ → List Item → ℕ
first_not_above k [] = 0
first_not_above k (i ∷ is) = pick (is_above_zero i) (first_not_above (k + 1) is) k

-- the earliest item, counted from 1, that breaks the condition; 0 where it holds
unfoldable pub breach : Condition → List Item → ℕ
breach none is = 0
breach zero_if_uneven is =
    pick (is_zero_integer (get_or is 2 Item.blank))
    (pick (is_zero_real (get_or is 3 Item.blank)) (pick (is_zero_real (get_or is 4 Item.blank)) 0 5) 4) 0
breach above_zero is = first_not_above 1 is
