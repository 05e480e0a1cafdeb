-- A typed set's lines as the walk follows them, given by their columns, with the items that they write.
use Rattle.std.specs.Prelude.{◌≡◌, true, List, [], ◌∷◌, ℕ}
use Rattle.line.specs.Line.{filled}
use Rattle.field.specs.Item.{Item}
use Rattle.record.specs.Written.{Written}
use Rattle.walk.specs.Due.{may_close, may_continue, row_due, after_items}
use Rattle.walk.specs.declared.Due.{Due}
use Rattle.theory.specs.Proper.{Inside}

-- from this state, lines of these columns write these items, each by the row due, and after them the set is closed
pub data TypedRun : Due → List (List Item) → List (List ℕ) → Type 0 where
  closed : {d : Due} → may_close d ≡ true → TypedRun d [] []
  more : {d : Due} {is : List Item} {cs : List ℕ} {iss : List (List Item)} {css : List (List ℕ)}
      → may_continue d ≡ true → Written (row_due d) is (filled cs) → Inside cs → TypedRun (after_items d is) iss css
      → TypedRun d (is ∷ iss) (cs ∷ css)
