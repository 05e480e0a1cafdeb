-- `parts::put_columns` meets its contract.
use mathlib.Core.Path.{sym, ap, ◌∙◌}
use mathlib.Core.Bool.{true}
use lib.Seq.{length-take-le}
use Rattle.line.specs.Line.{filled}
use Rattle.line.specs.LineLaws.{columns_within, columns_take}
use Rattle.parts.proofs.put_columns.Goals as goal

pub slice_bounds-fill_line-end : goal.slice_bounds-fill_line-end
slice_bounds-fill_line-end c = sym (length-take-le _ _ (rw c.columns_len-n.ensures (columns_within _ _)))

pub returns : goal.returns
returns c = c.fill_line.ensures ∙ ap filled (rw c.columns_len-n.ensures (sym (columns_take true _)))
