-- `parts::last_field` meets its contract.
use mathlib.Core.Path.{refl}
use Rattle.layout.specs.LayoutLaws.{fields_of_some}
use Rattle.layout.specs.Columns.{field_of}
use Rattle.parts.specs.Padding.{last_field}
use Rattle.parts.proofs.last_field.Goals as goal

pub nonzero_rem-result : goal.nonzero_rem-result
nonzero_rem-result c = rw c.fields_of.ensures (fields_of_some _ c.requires.0)

pub returns : goal.returns
unfolding last_field field_of
returns c = rw c.fields_of.ensures refl
