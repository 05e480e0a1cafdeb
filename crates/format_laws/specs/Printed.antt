-- The FORMATs that documents 000, 001, 002 and 004 print, as they print them, blanks and brackets too. Misprints, which read as nothing or as other
-- columns, stand for what they misspell: 000's `(8110)` for 82's entries, its 1s for Is in 1815 (004 prints the Is), and 002's `(10Al,10A1)`.
-- 002's `(10A1,10A1)` for 151's line 4 and `(I10,20A1)` for 164's line 1 leave numbers out that 000 prints. 003 misprints 58's records 7 and
-- 8, `T(311 10,3E13.5)` and `2(1X,2 20A1)`, for which 001's stand.
use Rattle.std.specs.Prelude.{Bool, false, ◌||◌, List, ℕ, ◌+◌, ◌-◌, ◌<◌, min, ltb, eqb, length, get_or}
use mathlib.Core.List as L
use Prim.Native.String.{String, [], ◌∷◌}
use Prim.Native.Char.{code}
use Rattle.laws.specs.Choice.{pick}
use Rattle.text.specs.Blank.{all_blank}
use Rattle.record_table.specs.Row.{first_fields}
use Rattle.record_table.specs.Records.{data_row, no_record}
use Rattle.record_table.specs.TypedSets.{kind58, kind82}
use Rattle.record.specs.Check.{remainder_in}
use Rattle.walk.specs.Due.{record_due, list_row}
use Rattle.walk.specs.declared.Due.{Due}

-- the bytes of a text
abbrev pub bytes_of : String → List ℕ
bytes_of [] = L.[]
bytes_of (c ∷ s) = L.◌∷◌ (code c) (bytes_of s)

-- a text, and the number of what it is printed for
pub record Print : Type 0 where
  pub number : ℕ
  pub text : List ℕ

abbrev pub print : ℕ → String → Print
print k s = record { number = k; text = bytes_of s }

infixr 5 ◌▸◌
abbrev pub ◌▸◌ : {A : Type 0} → A → List A → List A
a ▸ rest = L.◌∷◌ a rest

abbrev pub none : {A : Type 0} → List A
none = L.[]

-- of each record of the table, by its number there
unfoldable pub records : List Print
records =
    -- 58 (001, 000, 002)
    print 1 "(80A1)"
    ▸ print 2 "(2(I5,I10),2(1X,10A1,I10,I4))" ▸ print 2 "(2(I5, I10), 2(1X, 10A1, I10, I4))" ▸ print 2 "(2(I5,I10),2(1X, 10A1,I10,I4))"
    ▸ print 3 "(3I10,3E13.5)"
    ▸ print 4 "(I10,3I5,2(1X,20A1))"
    -- 82 (000, 002)
    ▸ print 5 "(3I10)" ▸ print 1 "(80A1)" ▸ print 6 "(8I10)"
    -- 151 (000, 002)
    ▸ print 0 "(80A1)" ▸ print 7 "(10A1,10A1,3I10)" ▸ print 8 "(10A1, 10A1)" ▸ print 8 "(10A1,10A1)"
    -- 164 (000, 002)
    ▸ print 9 "(I10,20A1,I10)" ▸ print 10 "(3D25.17)" ▸ print 11 "(1D25.17)"
    -- 1815, records 1 to 19, 24 and the lists after it (004)
    ▸ print 12 "(I12, 10A2)" ▸ print 13 "(1P2E15.7)" ▸ print 14 "(2(1I2,1I6),1I12)" ▸ print 15 "(1P3E15.7,1I12,1I2)" ▸ print 16 "(1P1E15.7,1I2,1I12,1I6)"
    ▸ print 17 "(1I12)" ▸ print 18 "(1I6,1P1E15.7)" ▸ print 19 "(1I2,1I6,1I12,1P2E15.7)" ▸ print 20 "(1I2,1I6,1P3E15.7)" ▸ print 21 "(3I6,8I2)"
    ▸ print 22 "(10A2)" ▸ print 0 "(40A2)" ▸ print 23 "(1I12,3I6,1I2)" ▸ print 24 "(1I6,1P2E15.7)" ▸ print 25 "(1I2,1I12,1P1E15.7)" ▸ print 26 "(1I2)"
    ▸ print 27 "(2I2,1I12)" ▸ print 28 "(2I12)" ▸ print 29 "(1P5E15.7)"
    ▸ none

abbrev pub print_at : ℕ → Print
print_at i = get_or records i (print 0 "")

-- of each case of 58's data lines, from 0 (001, 002)
unfoldable pub cases : List Print
cases =
    print 0 "6E13.5" ▸ print 1 "6E13.5" ▸ print 2 "6E13.5" ▸ print 3 "6E13.5"
    ▸ print 4 "4E20.12" ▸ print 5 "2(E13.5,E20.12)" ▸ print 6 "4E20.12" ▸ print 7 "E13.5,2E20.12"
    ▸ print 4 "4E20. 12" ▸ print 5 "2(E13.5,E20. 12)" ▸ print 6 "4E20. 12" ▸ print 7 "E13.5,2E20. 12"
    ▸ print 0 "(6E13.5)" ▸ print 1 "(6E13.5)" ▸ print 2 "(6E13.5)" ▸ print 3 "(6E13.5)"
    ▸ print 4 "(4E20.12)" ▸ print 5 "(2(E13.5,E20.12))" ▸ print 6 "(4E20.12)" ▸ print 7 "(E13.5,2E20.12)"
    ▸ none

abbrev pub case_at : ℕ → Print
case_at i = get_or cases i (print 0 "")

-- of a record, its first print
unfoldable pub text_in : List Print → ℕ → List ℕ
text_in L.[] k = none
text_in (L.◌∷◌ p ps) k = pick (eqb k p.number) p.text (text_in ps k)

abbrev pub record_text : ℕ → List ℕ
record_text k = text_in records k

-- whether a record is printed
unfoldable pub is_among : List Print → ℕ → Bool
is_among L.[] k = false
is_among (L.◌∷◌ p ps) k = eqb k p.number || is_among ps k

-- "a last line of numbers is read by the FORMAT of what it holds": of 1 to 8 entries of an 82, and of 1 to 5 numbers of a list of 1815
unfoldable pub entries_texts : List (List ℕ)
entries_texts =
    bytes_of "I10" ▸ bytes_of "2I10" ▸ bytes_of "3I10" ▸ bytes_of "4I10" ▸ bytes_of "5I10" ▸ bytes_of "6I10" ▸ bytes_of "7I10" ▸ bytes_of "8I10" ▸ none

unfoldable pub orders_texts : List (List ℕ)
orders_texts = bytes_of "1PE15.7" ▸ bytes_of "1P2E15.7" ▸ bytes_of "1P3E15.7" ▸ bytes_of "1P4E15.7" ▸ bytes_of "1P5E15.7" ▸ none

abbrev pub entries_text : ℕ → List ℕ
entries_text n = get_or entries_texts (n - 1) none

abbrev pub orders_text : ℕ → List ℕ
orders_text n = get_or orders_texts (n - 1) none

-- of 1 to 6 numbers of a data line, which is full before that in cases 5 to 8
abbrev singles : List (List ℕ)
singles = bytes_of "E13.5" ▸ bytes_of "2E13.5" ▸ bytes_of "3E13.5" ▸ bytes_of "4E13.5" ▸ bytes_of "5E13.5" ▸ bytes_of "6E13.5" ▸ none

abbrev doubles : List (List ℕ)
doubles = bytes_of "E20.12" ▸ bytes_of "2E20.12" ▸ bytes_of "3E20.12" ▸ bytes_of "4E20.12" ▸ bytes_of "4E20.12" ▸ bytes_of "4E20.12" ▸ none

abbrev pairs : List (List ℕ)
pairs =
    bytes_of "E13.5" ▸ bytes_of "E13.5,E20.12" ▸ bytes_of "E13.5,E20.12,E13.5"
    ▸ bytes_of "2(E13.5,E20.12)" ▸ bytes_of "2(E13.5,E20.12)" ▸ bytes_of "2(E13.5,E20.12)" ▸ none

abbrev triples : List (List ℕ)
triples =
    bytes_of "E13.5" ▸ bytes_of "E13.5,E20.12"
    ▸ bytes_of "E13.5,2E20.12" ▸ bytes_of "E13.5,2E20.12" ▸ bytes_of "E13.5,2E20.12" ▸ bytes_of "E13.5,2E20.12" ▸ none

unfoldable pub data_texts : List (List (List ℕ))
data_texts = singles ▸ singles ▸ singles ▸ singles ▸ doubles ▸ pairs ▸ doubles ▸ triples ▸ none

abbrev pub data_text : ℕ → ℕ → List ℕ
data_text c n = get_or (get_or data_texts c none) (n - 1) none

-- ".. C-13's remainder counting whole unless blank": of a data line on which n numbers are due, by its 80 columns
abbrev pub last_text : ℕ → ℕ → List ℕ → List ℕ
last_text c n line = pick (all_blank (remainder_in (first_fields n (data_row c)) line)) (data_text c n) (data_text c 6)

-- of a line of numbers that is due, by its 80 columns: that of the full line of a 58's data, an 82's entries or a 1815's lists, cut to what the line holds
abbrev pub list_text : Due → List ℕ → List ℕ
list_text d line =
    pick (eqb d.kind kind58) (last_text d.case (min d.left 6) line)
    (pick (eqb d.kind kind82) (entries_text (min d.left 8)) (orders_text (min d.left 5)))

-- of the line that is due: its record's, or that. Records 20 to 23 of 1815, which the request leaves out, are any text to the judge, and have 80A1 here
unfoldable pub printed_for : Due → List ℕ → List ℕ
printed_for d line = pick (ltb (record_due d) no_record) (record_text (record_due d)) (list_text d line)

-- what is due in a file: where numbers are left, a full line holds some
abbrev pub Holding : Due → Type 0
Holding d = 0 < d.left + d.second → 0 < length (list_row d).fields
