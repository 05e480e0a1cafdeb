-- The typed sets (01, "Records"): for each its number, its records in order, and what follows them. A new typed set is one more line of
-- the table here, and its records in Records; a new way to follow is one more `Following`.
use Rattle.std.specs.Prelude.{Bool, List, [], ◌∷◌, ℕ, suc, ltb, eqb, get_or}
use Rattle.laws.specs.Choice.{pick}
use Rattle.record_table.specs.Records.{trace_entries, order_lists}

-- what follows a set's records; a row is a record by number, places and items are counted from 0
pub data Following : Type 0 where
  -- no line
  nothing : Following
  -- a list of numbers in lines of a row: as many as an item of the record at a place says
  list : (row place item : ℕ) → Following
  -- two such lists, one after the other, with two items of the record
  lists : (row place first second : ℕ) → Following
  -- 58's data lines: the record at a place declares their case and their count
  data_lines : (place : ℕ) → Following

pub record TypedSet : Type 0 where
  pub number : ℕ
  pub records : List ℕ
  pub following : Following

abbrev pub typed_set : ℕ → List ℕ → Following → TypedSet
typed_set n rs f = record { number = n; records = rs; following = f }

-- the kinds of sets: the typed ones by their place in the table, and any other
abbrev pub kind58 : ℕ
kind58 = 0

abbrev pub kind82 : ℕ
kind82 = 1

abbrev pub kind151 : ℕ
kind151 = 2

abbrev pub kind164 : ℕ
kind164 = 3

abbrev pub kind1815 : ℕ
kind1815 = 4

abbrev pub untyped : ℕ
untyped = 5

-- how many records a 58 has before its data, how many before those of its axes, and the place of the one that says what the data are,
-- its line 7, from 0
abbrev pub header_lines : ℕ
header_lines = 11

abbrev pub before_axes : ℕ
before_axes = 7

abbrev pub line_seven : ℕ
line_seven = 6

-- how many records a 1815 has, the most of any set
abbrev pub most_records : ℕ
most_records = 24

unfoldable pub typed_sets : List TypedSet
typed_sets =
    -- lines 1 to 11, then the data
    typed_set 58 (1 ∷ 1 ∷ 1 ∷ 1 ∷ 1 ∷ 2 ∷ 3 ∷ 4 ∷ 4 ∷ 4 ∷ 4 ∷ []) (data_lines line_seven)
    -- the trace and its text, then as many entries as the trace says
    ∷ typed_set 82 (5 ∷ 1 ∷ []) (list trace_entries 0 1)
    -- "Seven lines"
    ∷ typed_set 151 (0 ∷ 0 ∷ 0 ∷ 7 ∷ 8 ∷ 0 ∷ 8 ∷ []) nothing
    -- units, factors, offset
    ∷ typed_set 164 (9 ∷ 10 ∷ 11 ∷ []) nothing
    -- records 1 to 24, then the two lists that record 24 counts
    ∷ typed_set 1815 (12 ∷ 13 ∷ 14 ∷ 13 ∷ 13 ∷ 15 ∷ 16 ∷ 17 ∷ 18 ∷ 19 ∷ 20 ∷ 21 ∷ 22 ∷ 0 ∷ 23 ∷ 24 ∷ 25 ∷ 26 ∷ 27 ∷ 0 ∷ 0 ∷ 0 ∷ 0 ∷ 28 ∷ [])
    (lists order_lists 23 0 1)
    ∷ []

-- "Typed sets are 58, 82, 151, 164 and 1815. A set of any other number is kept as plain lines": the place of a number in the table, from k
-- on; past its end for any other
abbrev pub place_of : ℕ → List TypedSet → ℕ → ℕ
place_of n [] k = k
place_of n (s ∷ ss) k = pick (eqb n s.number) k (place_of n ss (suc k))

unfoldable pub kind_of : ℕ → ℕ
kind_of n = place_of n typed_sets 0

unfoldable pub is_typed : ℕ → Bool
is_typed n = ltb (kind_of n) untyped

-- the records of a set of this kind, and what follows them; nothing past the table
unfoldable pub sequence : ℕ → List ℕ
sequence k = (get_or typed_sets k (typed_set 0 [] nothing)).records

unfoldable pub following : ℕ → Following
following k = (get_or typed_sets k (typed_set 0 [] nothing)).following
