-- A typed set's lines as the walk follows them.
use Rattle.std.specs.Prelude.{◌≡◌, true, List, [], ◌∷◌}
use Rattle.field.specs.Item.{Item}
use Rattle.record_table.specs.Row.{Row}
use Rattle.walk.specs.Due.{may_close, may_continue, row_due, after_items}
use Rattle.walk.specs.declared.Due.{Due}

-- from this state, lines of these items have these rows, and after them the set may close
pub data Follows : Due → List (List Item) → List Row → Type 0 where
  closed : {d : Due} → may_close d ≡ true → Follows d [] []
  more : {d : Due} {is : List Item} {iss : List (List Item)} {rs : List Row}
      → may_continue d ≡ true → Follows (after_items d is) iss rs → Follows d (is ∷ iss) (row_due d ∷ rs)
