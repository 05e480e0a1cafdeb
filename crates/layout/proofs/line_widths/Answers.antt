-- `layout::line_widths` meets its contract.
use Rattle.std.proofs.Common.{◌≡◌, ℕ, ◌≤◌, ◌<◌, List, [], ◌∷◌, get_or, refl, ap, ◌∙◌, rules}
use Rattle.std.proofs.lemmas.Option.{gets}
use Rattle.layout.specs.declared.TheConstants.{LAYOUTS}
use Rattle.layout.specs.Layout.{cell_of, layout_of, layouts, fields_of, values_of}
use Rattle.layout.specs.LayoutLaws.{table_row, cells_past}
use Rattle.layout.proofs.line_widths.Goals as goal

-- the first six of a row's numbers
abbrev six : List ℕ → List ℕ
six l = get_or l 0 0 ∷ get_or l 1 0 ∷ get_or l 2 0 ∷ get_or l 3 0 ∷ get_or l 4 0 ∷ get_or l 5 0 ∷ []

pub returns-in_default : goal.returns-in_default
returns-in_default c =
    let past : 8 ≤ c.args.case = search (rules, gets) in
    cells_past _ past

pub returns : goal.returns
unfolding cell_of layout_of layouts fields_of values_of
returns c =
    let row : c.in-Some.row.now ≡ get_or LAYOUTS c.args.case [] = search (rules, gets) in
    let below : c.args.case < 8 = search (rules, gets) in
    ap six (row ∙ table_row LAYOUTS _ [] refl below)
