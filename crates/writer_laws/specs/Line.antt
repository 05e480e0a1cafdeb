-- The numbers of one data line: that each fits its field, and the items that it shows.
use Rattle.std.specs.Prelude.{◌≡◌, true, List, [], ◌∷◌, ℕ, ◌+◌, ◌^◌, ◌≤◌, ◌<◌, ℤ, nat_abs}
use Rattle.real.specs.Real.{real_of}
use Rattle.decimal.specs.Decimal.{fits, field_text}
use Rattle.field.specs.Item.{Item}
use Rattle.field.specs.Field.{real_item}
use Rattle.writer.specs.Writer.{decimals_of}

-- numbers that can be written in fields of these widths, one after the other, as far as there are fields
pub data Fit : List ℕ → List ℤ → List ℤ → Type 0 where
  full : {xs ss : List ℤ} → Fit [] xs ss
  done : {ws : List ℕ} → Fit ws [] []
  more : {w : ℕ} {x s : ℤ} {ws : List ℕ} {xs ss : List ℤ}
      → decimals_of w ≤ 17 → decimals_of w + 7 ≤ w → nat_abs x < 10 ^ 20 → fits (decimals_of w) x s ≡ true → Fit ws xs ss → Fit (w ∷ ws) (x ∷ xs) (s ∷ ss)

-- the items that are read in them
unfoldable pub items_back : List ℕ → List ℤ → List ℤ → List Item
items_back [] xs ss = []
items_back (w ∷ ws) [] ss = []
items_back (w ∷ ws) (x ∷ xs) [] = []
items_back (w ∷ ws) (x ∷ xs) (s ∷ ss) = real_item (real_of (field_text w (decimals_of w) x s)) ∷ items_back ws xs ss
