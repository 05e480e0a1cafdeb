-- The rows owed from a state of the walk.
use Rattle.std.specs.Prelude.{◌≡◌, List, [], ◌∷◌, ◌++◌, map, ℕ, ◌<◌, leb, length, get_or, drop}
use Rattle.laws.specs.Choice.{pick}
use Rattle.field.specs.Item.{Item}
use Rattle.record_table.specs.Row.{Row}
use Rattle.record_table.specs.Records.{record_of, no_record}
use Rattle.record_table.specs.TypedSets.{sequence, untyped, following}
use Rattle.theory.specs.Due.{rows_holding, lists_of}
use Rattle.walk.specs.Due.{due, record_due, list_row, row_due, count_place, counted, after_items}
use Rattle.walk.specs.declared.Due.{Due}

-- a state of this kind, with this many lines of its records taken
abbrev pub DueAt : ℕ → ℕ → Due → Type 0
DueAt k a d = d ≡ due k a d.case d.left d.second

-- the state of a set with these lines when this many records have come: past the one that counts, the numbers are known
unfoldable pub reached : ℕ → List (List Item) → ℕ → Due
reached k ls a =
    pick (leb a (count_place (following k))) (due k a 0 0 0) (counted (following k) (get_or ls (count_place (following k)) []) (due k a 0 0 0))

-- the rows of the lists still to come
unfoldable pub rows_left : Due → List Row
rows_left d = rows_holding (list_row d) d.left ++ rows_holding (list_row d) d.second

-- a state in the lists: the records are done, the first list is done only where the second is, and a full line holds some number
pub record Listing (d : Due) : Type 0 where
  pub past : record_due d ≡ no_record
  pub none : d.left ≡ 0 → d.second ≡ 0
  pub wide : 0 < d.left → 0 < length (list_row d).fields

-- the rows owed from a state, if lines of these items come: the records and lists that document 01 gives, or the lists alone
pub data Owes : Due → List (List Item) → List Row → Type 0 where
  records : (k a : ℕ) (ls : List (List Item)) {iss : List (List Item)}
      → k < untyped → a < length (sequence k) → drop a ls ≡ iss → Owes (reached k ls a) iss (map record_of (drop a (sequence k)) ++ lists_of k ls)
  lists : {d : Due} {iss : List (List Item)} → Listing d → Owes d iss (rows_left d)

-- one line owed: its row, and what is owed after it
pub record Next (d : Due) (iss : List (List Item)) (rs : List Row) : Type 0 where
  pub rest : List Row
  pub first : rs ≡ row_due d ∷ rest
  pub then : (is : List Item) (iss' : List (List Item)) → iss ≡ is ∷ iss' → Owes (after_items d is) iss' rest
