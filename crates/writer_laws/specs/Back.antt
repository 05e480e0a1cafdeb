-- An item that shows a number given to the writer.
use Rattle.std.specs.Prelude.{◌≡◌, Bool, ℕ, ℤ, nat_abs}
use Rattle.real.specs.Real.{below_zero}
use Rattle.decimal.specs.Decimal.{SameNumber}
use Rattle.field.specs.Item.{Item}

-- an item that is this number: a real of its sign, and the same number
pub record Back (x s : ℤ) (i : Item) : Type 0 where
  pub minus : Bool
  pub coefficient : ℕ
  pub scale : ℤ
  pub item : i ≡ Item.real minus coefficient scale
  pub sign : minus ≡ below_zero x
  pub same : SameNumber (nat_abs x) s coefficient scale
