-- The table of the eight cases: it is the published FORMATs', its fields lie inside 80 columns, and the code's constant holds it.
use Rattle.std.specs.Prelude.{◌≡◌, refl, Bool, true, ◌&&◌, List, [], map, ℕ, ◌+◌, ◌*◌, ◌≤◌, ◌<◌, ◌/◌, leb, ltb, eqb, length, get_or, replicate}
use Rattle.std.proofs.Common.{sym, ◌∙◌, ap, ⊎_elim, le_trans, arith, leb-true, eqb-true, lt-ltb, le-ltb, ne_eqb}
use Rattle.std.proofs.Math.ListN.{get_or-eq_default}
use Rattle.laws.specs.ChoiceLaws.{pick_same, and_left, and_right, below_or_not}
use Rattle.laws.specs.RangesLaws.{in_range}
use Rattle.laws.specs.Table.{tabulate}
use Rattle.laws.specs.TableLaws.{table_at}
use Rattle.layout.specs.Columns.{field_start, field_past, total}
use Rattle.layout.specs.ColumnsLaws.{field_past_total, field_start_total}
use Rattle.layout.specs.Layout.{Layout, layouts, layout_of, fields_of, values_of, numbers_of, printed, cell_of, layout, case_for, shape, shape_printed}

pub layouts_printed : map shape layouts ≡ map shape_printed printed
unfolding layouts printed
layouts_printed = refl

-- a case is found by its ordinate type and its spacing
abbrev found : ℕ → Bool
found c = eqb (case_for (layout_of c).ordinate (layout_of c).spacing) c

pub case_of_layout : (c : ℕ) → c < 8 → case_for (layout_of c).ordinate (layout_of c).spacing ≡ c
unfolding case_for layout_of layouts
case_of_layout c h = eqb-true _ _ (in_range found true 0 8 c refl (omega arith) (omega arith))

-- a case's fields fill no more than 80 columns, there is one at least, and they are the numbers of its values
abbrev sound : ℕ → Bool
sound c = leb (total (layout_of c).widths) 80 && (ltb 0 (fields_of c) && eqb (fields_of c) (values_of c * numbers_of c))

tested : (c : ℕ) → c < 8 → sound c ≡ true
unfolding layouts layout_of fields_of values_of numbers_of total
tested c h = in_range sound true 0 8 c refl (omega arith) (omega arith)

pub fields_of_some : (c : ℕ) → c < 8 → 0 < fields_of c
fields_of_some c h = leb-true 1 _ (and_left (ltb 0 (fields_of c)) _ (and_right (leb (total (layout_of c).widths) 80) _ (tested c h)))

pub fields_of_values : (c : ℕ) → c < 8 → fields_of c ≡ values_of c * numbers_of c
fields_of_values c h =
    eqb-true _ _ (and_right (ltb 0 (fields_of c)) _ (and_right (leb (total (layout_of c).widths) 80) _ (tested c h)))

-- there is no case past the eight
pub layout_of_past : (c : ℕ) → 8 ≤ c → layout_of c ≡ layout 0 0 [] 0
unfolding layout_of layouts
layout_of_past c h = get_or-eq_default layouts (layout 0 0 [] 0) h

abbrev narrow : ℕ → Bool
narrow c = leb (length (layout_of c).widths) 6

-- the columns of every case lie inside the line's 80
pub total_inside : (c : ℕ) → total (layout_of c).widths ≤ 80
unfolding total
total_inside c =
    ⊎_elim
    (λ h. leb-true _ _ (and_left (leb (total (layout_of c).widths) 80) _ (tested c h)))
    (λ h. rw (layout_of_past c h) (omega arith))
    (below_or_not c 8)

pub field_past_inside : (c k : ℕ) → field_past (layout_of c).widths k ≤ 80
field_past_inside c k = le_trans (field_past_total (layout_of c).widths k) (total_inside c)

-- by a field's first column and its width
pub field_inside : (c k : ℕ) → field_start (layout_of c).widths k + get_or (layout_of c).widths k 0 ≤ 80
unfolding field_past
field_inside c k = field_past_inside c k

-- no case has more than six fields
pub widths_six : (c : ℕ) → length (layout_of c).widths ≤ 6
unfolding layout_of layouts
widths_six c = ⊎_elim (λ h. leb-true _ _ (in_range narrow true 0 8 c refl (omega arith) (omega arith))) (λ h. rw (layout_of_past c h) (omega arith)) (below_or_not c 8)

pub width_past : (c k : ℕ) → 6 ≤ k → get_or (layout_of c).widths k 0 ≡ 0
width_past c k h = let w : length (layout_of c).widths ≤ 6 = widths_six c in get_or-eq_default (layout_of c).widths 0 (omega arith)

-- nothing stands in the table past its cases and its places
pub cell_of_case_past : (c k : ℕ) → 8 ≤ c → cell_of c k ≡ 0
unfolding cell_of fields_of values_of layout_of layouts
cell_of_case_past c k h = rw (layout_of_past c h) (simp pick_same)

pub cells_past : (c : ℕ) → 8 ≤ c → replicate 6 0 ≡ tabulate (cell_of c) 0 6
cells_past c h = simp (cell_of_case_past c)

-- the widths that the code lays out are the layout's
pub width_cell : (c k : ℕ) (ws : List ℕ) → ws ≡ tabulate (cell_of c) 0 6 → k < 6 → get_or ws k 0 ≡ get_or (layout_of c).widths k 0
unfolding cell_of
width_cell c k ws e h = table_at (cell_of c) ws 6 k 0 e h ∙ rw (lt-ltb k 6 h) refl

pub cell_of_place_past : (c k : ℕ) → 8 ≤ k → cell_of c k ≡ 0
unfolding cell_of
cell_of_place_past c k h = simp (le-ltb k 6 (omega arith), ne_eqb k 6 (λ e. omega arith), ne_eqb k 7 (λ e. omega arith))

-- the code's table: a row a case, its numbers by their place
pub table_row : (t : List (List ℕ)) (c : ℕ) (d : List ℕ) → t ≡ tabulate (λ (i : ℕ). tabulate (cell_of i) 0 8) 0 8 → c < 8
    → get_or t c d ≡ tabulate (cell_of c) 0 8
table_row t c d e h = table_at (λ (i : ℕ). tabulate (cell_of i) 0 8) t 8 c d e h

pub table_cell : (t : List (List ℕ)) (c k : ℕ) (d : List ℕ) → t ≡ tabulate (λ (i : ℕ). tabulate (cell_of i) 0 8) 0 8 → c < 8 → k < 8
    → get_or (get_or t c d) k 0 ≡ cell_of c k
table_cell t c k d e h l = table_at (cell_of c) (get_or t c d) 8 k 0 (table_row t c d e h) l

-- anywhere, 0 where the table has no such place
pub table_number : (t : List (List ℕ)) (c k : ℕ) → t ≡ tabulate (λ (i : ℕ). tabulate (cell_of i) 0 8) 0 8 → get_or (get_or t c []) k 0 ≡ cell_of c k
table_number t c k e = ⊎_elim (λ h. ⊎_elim (table_cell t c k [] e h) (row_end h) (below_or_not k 8)) table_end (below_or_not c 8)
  where
    row_end : c < 8 → 8 ≤ k → get_or (get_or t c []) k 0 ≡ cell_of c k
    row_end h l = rw (table_row t c [] e h, cell_of_place_past c k l) (get_or-eq_default (tabulate (cell_of c) 0 8) 0 l)

    table_end : 8 ≤ c → get_or (get_or t c []) k 0 ≡ cell_of c k
    table_end h = rw (cell_of_case_past c k h, e, get_or-eq_default (tabulate (λ (i : ℕ). tabulate (cell_of i) 0 8) 0 8) [] h) refl

-- a field past the sixth begins where all of them end
pub field_start_past : (c j k : ℕ) → 6 ≤ j → j ≤ k → field_start (layout_of c).widths j ≡ field_start (layout_of c).widths k
field_start_past c j k h l =
    let w : length (layout_of c).widths ≤ 6 = widths_six c in
    field_start_total (layout_of c).widths j (omega arith) ∙ sym (field_start_total (layout_of c).widths k (omega arith))

-- the numbers in a value are the fields of a line by its values
abbrev quotient : ℕ → Bool
quotient c = ltb 0 (values_of c) && eqb (fields_of c / values_of c) (numbers_of c)

quotient_below : (c : ℕ) → c < 8 → quotient c ≡ true
unfolding fields_of values_of numbers_of layout_of layouts
quotient_below c h = in_range quotient true 0 8 c refl (omega arith) (omega arith)

values_of_past : (c : ℕ) → 8 ≤ c → values_of c ≡ 0
unfolding values_of
values_of_past c h = ap (λ (l : Layout). l.values) (layout_of_past c h)

numbers_of_past : (c : ℕ) → 8 ≤ c → numbers_of c ≡ 0
unfolding numbers_of
numbers_of_past c h = simp (le-ltb c 8 h)

pub numbers_of_quotient : (c : ℕ) → (values_of c ≡ 0 → ⊥) → fields_of c / values_of c ≡ numbers_of c
numbers_of_quotient c n =
    ⊎_elim
    (λ h. eqb-true _ _ (and_right (ltb 0 (values_of c)) _ (quotient_below c h)))
    (λ h. absurd (n (values_of_past c h)))
    (below_or_not c 8)

pub numbers_of_none : (c : ℕ) → values_of c ≡ 0 → numbers_of c ≡ 0
numbers_of_none c e =
    ⊎_elim
    (λ h. let p : 0 < values_of c = leb-true 1 _ (and_left (ltb 0 (values_of c)) _ (quotient_below c h)) in absurd (omega arith))
    (numbers_of_past c)
    (below_or_not c 8)
