-- `rewriter::cut_len` meets its contract.
use mathlib.Core.Path.{◌∙◌}
use Rattle.line.specs.LineLaws.{line_len_within}
use Rattle.rewriter.proofs.BodyLaws.{cut_least}
use native.Mathlib.Omega.{arith}
use Rattle.rewriter.proofs.cut_len.Goals as goal

pub slice_bounds-kept_len-end : goal.slice_bounds-kept_len-end
slice_bounds-kept_len-end c = omega (arith, c.find_end-end.ensures, line_len_within c.args.file.now c.args.at c.requires, c.min.ensures)

pub returns : goal.returns
returns c = c.kept_len.ensures ∙ cut_least _ _ _ _ c.find_end-end.ensures _ c.min.ensures
