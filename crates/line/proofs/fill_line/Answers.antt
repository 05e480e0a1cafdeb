-- `line::fill_line` meets its contract.
use Rattle.line.specs.LineLaws.{filled_copied}
use Rattle.line.proofs.fill_line.Goals as goal

pub returns : goal.returns
returns c = filled_copied c.args.s.now _ c.min-n.result c.min-n.ensures c.copy_from_slice.ensures.after
