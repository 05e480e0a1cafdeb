-- An item that stands in its columns.
use Rattle.std.specs.Prelude.{◌≡◌, Bool, List, ℕ, ℤ}
use Rattle.real.specs.Spelling.{RealSpelling}
use Rattle.field.specs.Item.{Item}

-- an item that is a real, spelled in these columns
pub record Spelled (i : Item) (cols : List ℕ) : Type 0 where
  pub minus : Bool
  pub coefficient : ℕ
  pub scale : ℤ
  pub item : i ≡ Item.real minus coefficient scale
  pub spelling : RealSpelling minus coefficient scale cols
