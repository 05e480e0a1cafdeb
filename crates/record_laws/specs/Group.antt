-- Where a row's fields that may be left blank lie: side by side, in the columns that each of them names.
use Rattle.std.specs.Prelude.{◌≡◌, Bool, true, ◌&&◌, ◌||◌, List, [], ◌∷◌, ◌⊎◌, ℕ, ◌+◌, ◌≤◌, eqb, leb}
use Rattle.codes.specs.Form.{Form, Optional, skip, text, identification, real, integer, never, within}
use Rattle.field.specs.Item.{Item}
use Rattle.record_table.specs.Row.{Field, Row, blanks, with_padding, none}
use Rattle.record.specs.Written.{optional_items}

-- a field of w columns from the column at on: one that may be left blank lies in the columns from a to before e and names them, any
-- other lies outside
abbrev pub placed : (a e at w : ℕ) → Optional → Bool
placed a e at w never = leb e at || leb (at + w) a
placed a e at w (within b d) = (eqb b a && eqb d e) && (leb a at && leb (at + w) e)

-- the same by the field's form; skipped columns lie anywhere
abbrev pub placed_form : (a e at w : ℕ) → Form → Bool
placed_form a e at w skip = true
placed_form a e at w text = placed a e at w never
placed_form a e at w identification = placed a e at w never
placed_form a e at w real = placed a e at w never
placed_form a e at w (integer r o) = placed a e at w o

-- the fields from the column at on
unfoldable pub placed_from : (a e : ℕ) → List Field → ℕ → Bool
placed_from a e [] at = true
placed_from a e (f ∷ fs) at = placed_form a e at f.width f.form && placed_from a e fs (at + f.width)

-- a row's fields, and the columns of those that may be left blank
pub record Grouped (fs : List Field) : Type 0 where
  pub from : ℕ
  pub past : ℕ
  pub lie : placed_from from past fs 0 ≡ true

-- a row whose remainder may be filled: none of its fields may be left blank, and it asks nothing of them together
pub record Fillable (r : Row) : Type 0 where
  pub required : (is : List Item) → optional_items (with_padding r).fields is ≡ []
  pub free : r.condition ≡ none

-- what reading by a row stands on
pub record Readable (r : Row) : Type 0 where
  pub grouped : Grouped (with_padding r).fields
  pub filled : (r.remainder ≡ blanks) ⊎ Fillable r

-- a field that may be left blank where the columns from b to before d are: these are the columns from a to before e, and it lies in them
pub record Inside (a e at w b d : ℕ) : Type 0 where
  pub from : b ≡ a
  pub past : d ≡ e
  pub first : a ≤ at
  pub last : at + w ≤ e
