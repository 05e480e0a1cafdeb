-- `layout::field_width` meets its contract.
use mathlib.Core.Path.{sym, ◌∙◌}
use borrow.Author.Tests.{lt-ltb}
use Rattle.layout.specs.Layout.{cell_of}
use Rattle.layout.specs.LayoutLaws.{width_past}
use Rattle.layout.proofs.field_width.Goals as goal

pub returns-then-field-ge6 : goal.returns-then-field-ge6
returns-then-field-ge6 c = sym (width_past _ _ c.if-field-ge6.true)

pub returns : goal.returns
unfolding cell_of
returns c = c.cell.ensures ∙ simp (lt-ltb _ _ c.if-field-ge6.false)
