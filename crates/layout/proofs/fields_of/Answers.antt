-- `layout::fields_of` meets its contract.
use Rattle.layout.specs.Layout.{cell_of}
use Rattle.layout.proofs.fields_of.Goals as goal

pub returns : goal.returns
unfolding cell_of
returns c = c.cell.ensures
