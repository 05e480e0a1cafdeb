-- Lines and numbers that document 01 names ("Records", "Easy to get wrong"), computed from the definitions.
use Rattle.std.specs.Prelude.{◌≡◌, refl, List, [], ◌∷◌, map, ℕ, ◌+◌, ◌*◌, length}
use Rattle.laws.specs.Table.{tabulate}
use Rattle.layout.specs.Layout.{layouts, layout_of, fields_of, values_of, numbers_of}
use Rattle.record_table.specs.Row.{Row, padding_fields, first_fields}
use Rattle.record_table.specs.Records.{records, record_of, data_row, order_lists}
use Rattle.theory.specs.Due.{lines_for, number_rows, rows_holding}

-- "data lines, all full but the last, which holds only what is left": the fields of the lines of eight numbers in case 1
pub eight_in_case_1 : map (λ (r : Row). length r.fields) (rows_holding (data_row 0) 8) ≡ 6 ∷ 2 ∷ []
unfolding lines_for number_rows data_row layout_of layouts
eight_in_case_1 = refl

-- 02, C-13: only the last of them has padding, up to the full line; the lines of a list have none
pub padding_in_case_1 : map (λ (r : Row). length (padding_fields r)) (rows_holding (data_row 0) 8) ≡ 0 ∷ 4 ∷ []
unfolding lines_for number_rows data_row layout_of layouts
padding_in_case_1 = refl

-- by the case and the values of its last line, from 1 to as many as a full line holds: "A line that is full by its count has no remainder"; reading H4
abbrev pub paddings : ℕ → List ℕ
paddings c = tabulate (λ (k : ℕ). length (padding_fields (first_fields ((k + 1) * numbers_of c) (data_row c)))) 0 (values_of c)

pub padding_by_case : tabulate paddings 0 8
    ≡ (5 ∷ 4 ∷ 3 ∷ 2 ∷ 1 ∷ 0 ∷ []) ∷ (4 ∷ 2 ∷ 0 ∷ []) ∷ (4 ∷ 2 ∷ 0 ∷ []) ∷ (3 ∷ 0 ∷ []) ∷ (3 ∷ 2 ∷ 1 ∷ 0 ∷ []) ∷ (2 ∷ 0 ∷ []) ∷ (2 ∷ 0 ∷ []) ∷ (0 ∷ []) ∷ []
unfolding numbers_of values_of fields_of data_row layout_of layouts
padding_by_case = refl

pub orders_unpadded : map (λ (r : Row). length (padding_fields r)) (rows_holding (record_of order_lists) 7) ≡ 0 ∷ 0 ∷ []
unfolding lines_for number_rows record_of records
orders_unpadded = refl

-- "case 3 with count 3 stores six numbers"
pub three_in_case_3 : 3 * numbers_of 2 ≡ 6
unfolding numbers_of layout_of layouts
three_in_case_3 = refl

-- 1815: "no line at all for a count of 0"
pub no_orders : length (rows_holding (record_of order_lists) 0) ≡ 0
unfolding lines_for number_rows record_of records
no_orders = refl
