-- `rewriter::kept_len` meets its contract.
use mathlib.Core.Path.{sym}
use lib.Seq.{length-take-le}
use Rattle.line.specs.LineLaws.{columns_within}
use Rattle.rewriter.proofs.BodyLaws.{kept_columns}
use Rattle.rewriter.proofs.kept_len.Goals as goal

pub slice_bounds-text_len-end : goal.slice_bounds-text_len-end
slice_bounds-text_len-end c = sym (length-take-le _ _ (rw c.columns_len-n.ensures (columns_within _ _)))

pub returns : goal.returns
returns c = kept_columns _ _ _ c.columns_len-n.ensures c.text_len.ensures
