-- `parts::put_line` meets its contract.
use native.Mathlib.Omega.{arith}
use mathlib.Core.Path.{◌∙◌}
use Rattle.line.specs.LineLaws.{line_len_within}
use Rattle.parts.specs.SetLaws.{columns_at_none, columns_at_line}
use borrow.Author.Rules.{rules}
use Rattle.parts.proofs.put_line.Goals as goal

pub returns-then-closing-at : goal.returns-then-closing-at
returns-then-closing-at c = c.put_columns.ensures ∙ columns_at_none c.args.file.now _ _ c.if-closing-at.true

pub slice_bounds-put_columns-end-2 : goal.slice_bounds-put_columns-end-2
slice_bounds-put_columns-end-2 c = omega (arith, c.find_end-end.ensures, line_len_within c.args.file.now c.args.at (search rules))

pub returns : goal.returns
returns c = c.put_columns-2.ensures ∙ columns_at_line c.args.file.now _ _ _ c.if-closing-at.false c.find_end-end.ensures
