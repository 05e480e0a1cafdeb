-- `lister::take_line` meets its contract.
use mathlib.Core.Path.{◌∙◌}
use Rattle.line.specs.LineLaws.{line_len_within}
use Rattle.lister.specs.FunctionLaws.{line_taken}
use native.Mathlib.Omega.{arith}
use borrow.Author.Rules.{rules}
use Rattle.lister.proofs.take_line.Goals as goal

pub slice_bounds-put_columns-end : goal.slice_bounds-put_columns-end
slice_bounds-put_columns-end c = omega (arith, c.find_end-end.ensures, line_len_within c.args.file.now c.args.at (search rules))

pub overflow_add-result : goal.overflow_add-result
overflow_add-result c = omega (arith, c.find_end-end.ensures, line_len_within c.args.file.now c.args.at c.requires)

pub returns : goal.returns
returns c =
    let ended = c.find_end-end.ensures in
    (omega (arith, ended), c.put_columns.ensures ∙ line_taken c.args.file.now _ _ ended)
