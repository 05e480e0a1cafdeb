-- What a row of the code's two tables is: forms by number and widths, twelve of each, that give a record's
-- fields and fit the line. Forms past the width that ends a row are free: nothing reads them.
use Rattle.std.specs.Prelude.{◌≡◌, List, Bool, ◌&&◌, ℕ, ◌≤◌, zero, suc, length, leb, eqb}
use Prim.{Unit}
use Rattle.layout.specs.Columns.{total}
use Rattle.record_table.specs.Records.{record_of, field_list}

pub record Tabled (k : ℕ) (fs ws : List ℕ) : Type 0 where
  pub listed : field_list fs ws ≡ (record_of k).fields
  pub fits : total ws ≤ 80
  pub forms_all : length fs ≡ 12
  pub widths_all : length ws ≡ 12

-- twelve forms and twelve widths that fit the line
unfoldable pub is_whole : List ℕ → List ℕ → Bool
is_whole fs ws = leb (total ws) 80 && (eqb (length fs) 12 && eqb (length ws) 12)

-- a number that is none of the first n is past them
unfoldable pub Differs : ℕ → ℕ → Type 0
Differs zero k = Unit
Differs (suc n) k = Differs n k × (k ≡ n → ⊥)
