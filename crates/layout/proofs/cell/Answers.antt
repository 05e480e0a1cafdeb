-- `layout::cell` meets its contract.
use Rattle.std.proofs.Common.{◌≡◌, [], get_or, refl, ◌∙◌, rules}
use Rattle.std.proofs.lemmas.Option.{gets}
use Rattle.layout.specs.declared.TheConstants.{LAYOUTS}
use Rattle.layout.specs.Layout.{cell_of, layout_of, layouts, fields_of, values_of}
use Rattle.layout.specs.LayoutLaws.{table_number}
use Rattle.layout.proofs.cell.Goals as goal

pub returns : goal.returns
unfolding cell_of layout_of layouts fields_of values_of
returns c =
    let found : c.map_or.result ≡ get_or (get_or LAYOUTS c.args.case []) c.args.place 0 = search (rules, gets) in
    found ∙ table_number LAYOUTS _ _ refl
