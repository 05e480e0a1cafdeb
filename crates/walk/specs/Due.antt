-- What is due in a typed set, line by line.
use Rattle.std.specs.Prelude.{Bool, ◌&&◌, ◌||◌, List, ℕ, ◌+◌, ◌-◌, leb, ltb, eqb, length, get_or, Option, Some, None}
use Rattle.laws.specs.Choice.{pick}
use Rattle.field.specs.Item.{Item}
use Rattle.record_table.specs.Row.{Row, first_fields}
use Rattle.record_table.specs.Records.{record_of, data_row, no_record}
use Rattle.record_table.specs.TypedSets.{sequence, Following, nothing, list, lists, data_lines, following}
use Rattle.record.specs.Check.{items_of}
use Rattle.record.specs.Declares.{natural_at, case_by, stored_by}
use Rattle.walk.specs.declared.Due.{Due}

-- kind of set; lines taken of its records; case of a 58; numbers left in the list that follows them; numbers of a second list
abbrev pub due : ℕ → ℕ → ℕ → ℕ → ℕ → Due
due k a c l s = record { kind = k; at = a; case = c; left = l; second = s }

-- a set of this kind opens
abbrev pub opening : ℕ → Due
opening k = due k 0 0 0 0

-- the record due, by number; none where all of them have come
unfoldable pub record_due : Due → ℕ
record_due d = get_or (sequence d.kind) d.at no_record

-- a record's number as the code answers it: None where there is no such record
unfoldable pub due_record : ℕ → Option ℕ
due_record n = pick (ltb n no_record) (Some n) None

-- a full line of what follows a set's records, by the case of a 58
abbrev pub full_row : Following → ℕ → Row
full_row nothing c = record_of no_record
full_row (list r p i) c = record_of r
full_row (lists r p i j) c = record_of r
full_row (data_lines p) c = data_row c

unfoldable pub list_row : Due → Row
list_row d = full_row (following d.kind) d.case

-- the row of the next line: a record, or as much of a full line of the list as is left
unfoldable pub row_due : Due → Row
row_due d = pick (ltb (record_due d) no_record) (record_of (record_due d)) (first_fields d.left (list_row d))

-- whether the delimiter may come: no record is due, and no number
unfoldable pub may_close : Due → Bool
may_close d = leb no_record (record_due d) && eqb d.left 0

-- whether a line may come: a record is due, or some number
unfoldable pub may_continue : Due → Bool
may_continue d = ltb (record_due d) no_record || ltb 0 d.left

-- where a list is done, the second one is next
unfoldable pub settled : Due → Due
settled d = pick (eqb d.left 0) (due d.kind d.at d.case d.second 0) d

-- the next record is due
abbrev pub next : Due → Due
next d = due d.kind (d.at + 1) d.case d.left d.second

-- the place of the record that counts what follows the records, from 0; past all of them where none does
abbrev pub count_place : Following → ℕ
count_place nothing = no_record
count_place (list r p i) = p
count_place (lists r p i j) = p
count_place (data_lines p) = p

-- with the numbers that a record of these items counts
abbrev pub counted : Following → List Item → Due → Due
counted nothing is d = d
counted (list r p i) is d = due d.kind d.at 0 (natural_at is i) 0
counted (lists r p i j) is d = settled (due d.kind d.at 0 (natural_at is i) (natural_at is j))
counted (data_lines p) is d = due d.kind d.at (case_by is) (stored_by is) 0

-- after a record of these items
unfoldable pub after_record : Due → List Item → Due
after_record d is = pick (eqb d.at (count_place (following d.kind))) (counted (following d.kind) is (next d)) (next d)

-- after a line of the list
unfoldable pub after_list : Due → Due
after_list d = settled (due d.kind d.at d.case (d.left - length (list_row d).fields) d.second)

-- after a line of these items
unfoldable pub after_items : Due → List Item → Due
after_items d is = pick (ltb (record_due d) no_record) (after_record d is) (after_list d)

-- the items of a line, by the row due
abbrev pub items_due : Due → List ℕ → List Item
items_due d line = items_of (row_due d).fields 0 line

-- after a line that passes
abbrev pub after : Due → List ℕ → Due
after d line = after_items d (items_due d line)
