-- The layout of 58's data lines (01, "Records": the table of the eight cases), and the FORMATs that 001 prints for them.
use Rattle.std.specs.Prelude.{◌&&◌, ◌||◌, List, [], ◌∷◌, ◌++◌, map, ℕ, zero, suc, ◌+◌, ltb, eqb, length, get_or}
use Rattle.laws.specs.Choice.{pick}

-- a case: "ordinate type, spacing" (1 even, 0 uneven), "fields of a full line" by their widths, and "values in it"
pub record Layout : Type 0 where
  pub ordinate : ℕ
  pub spacing : ℕ
  pub widths : List ℕ
  pub values : ℕ

abbrev pub layout : ℕ → ℕ → List ℕ → ℕ → Layout
layout t s ws v = record { ordinate = t; spacing = s; widths = ws; values = v }

-- the eight cases, in 01's order, counted from 0
unfoldable pub layouts : List Layout
layouts =
    layout 2 1 (13 ∷ 13 ∷ 13 ∷ 13 ∷ 13 ∷ 13 ∷ []) 6
    ∷ layout 2 0 (13 ∷ 13 ∷ 13 ∷ 13 ∷ 13 ∷ 13 ∷ []) 3
    ∷ layout 5 1 (13 ∷ 13 ∷ 13 ∷ 13 ∷ 13 ∷ 13 ∷ []) 3
    ∷ layout 5 0 (13 ∷ 13 ∷ 13 ∷ 13 ∷ 13 ∷ 13 ∷ []) 2
    ∷ layout 4 1 (20 ∷ 20 ∷ 20 ∷ 20 ∷ []) 4
    ∷ layout 4 0 (13 ∷ 20 ∷ 13 ∷ 20 ∷ []) 2
    ∷ layout 6 1 (20 ∷ 20 ∷ 20 ∷ 20 ∷ []) 2
    ∷ layout 6 0 (13 ∷ 20 ∷ 20 ∷ []) 1
    ∷ []

-- no fields past the eight
unfoldable pub layout_of : ℕ → Layout
layout_of c = get_or layouts c (layout 0 0 [] 0)

unfoldable pub fields_of : ℕ → ℕ
fields_of c = length (layout_of c).widths

unfoldable pub values_of : ℕ → ℕ
values_of c = (layout_of c).values

-- the place, counted from k, of the case of an ordinate type and a spacing; 8 for none
abbrev pub first_case : ℕ → ℕ → ℕ → List Layout → ℕ
first_case t s k [] = 8
first_case t s k (l ∷ ls) = pick (eqb t l.ordinate && eqb s l.spacing) k (first_case t s (suc k) ls)

unfoldable pub case_for : ℕ → ℕ → ℕ
case_for t s = first_case t s 0 layouts

-- "A value stores its abscissa first where uneven, then its real part, then its imaginary part": the numbers in a value, by
-- spacing and by ordinate type (5 and 6 are complex)
abbrev pub numbers_in : ℕ → ℕ → ℕ
numbers_in t s = pick (eqb s 0) 1 0 + (1 + pick (eqb t 5 || eqb t 6) 1 0)

-- of a case; none past the eight
unfoldable pub numbers_of : ℕ → ℕ
numbers_of c = pick (ltb c 8) (numbers_in (layout_of c).ordinate (layout_of c).spacing) 0

-- Ew.d, an item of a FORMAT
pub record Edit : Type 0 where
  pub width : ℕ
  pub decimals : ℕ

abbrev pub E : ℕ → ℕ → Edit
E w d = record { width = w; decimals = d }

-- items repeated
abbrev pub times : ℕ → List Edit → List Edit
times zero is = []
times (suc n) is = is ++ times n is

-- what 001 prints for an ordinate type and a spacing
pub record Printed : Type 0 where
  pub ordinate : ℕ
  pub spacing : ℕ
  pub format : List Edit

abbrev pub prints : ℕ → ℕ → List Edit → Printed
prints t s f = record { ordinate = t; spacing = s; format = f }

-- 001, record 12 and Addendum B: 6E13.5, 4E20.12, 2(E13.5,E20.12), E13.5,2E20.12
unfoldable pub printed : List Printed
printed =
    prints 2 1 (times 6 (E 13 5 ∷ [])) ∷ prints 2 0 (times 6 (E 13 5 ∷ []))
    ∷ prints 5 1 (times 6 (E 13 5 ∷ [])) ∷ prints 5 0 (times 6 (E 13 5 ∷ []))
    ∷ prints 4 1 (times 4 (E 20 12 ∷ [])) ∷ prints 4 0 (times 2 (E 13 5 ∷ E 20 12 ∷ []))
    ∷ prints 6 1 (times 4 (E 20 12 ∷ [])) ∷ prints 6 0 (E 13 5 ∷ times 2 (E 20 12 ∷ []))
    ∷ []

-- the code's constant table: eight numbers a case, the widths of its fields (0 past the last), its fields, its values
unfoldable pub cell_of : ℕ → ℕ → ℕ
cell_of c k =
    pick (ltb k 6) (get_or (layout_of c).widths k 0)
    (pick (eqb k 6) (fields_of c) (pick (eqb k 7) (values_of c) 0))

-- the table's rows are the published FORMATs, by ordinate type and spacing
abbrev pub shape : Layout → ℕ × (ℕ × List ℕ)
shape l = (l.ordinate, (l.spacing, l.widths))

abbrev pub shape_printed : Printed → ℕ × (ℕ × List ℕ)
shape_printed p = (p.ordinate, (p.spacing, map (λ (e : Edit). e.width) p.format))
