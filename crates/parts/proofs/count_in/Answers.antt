-- `parts::count_in` meets its contract.
use mathlib.Core.Path.{ap, ◌∙◌}
use Rattle.record.specs.Declares.{count_in}
use Rattle.parts.proofs.count_in.Goals as goal

pub returns : goal.returns
returns c = c.count_in.ensures ∙ ap count_in c.put_line_at.ensures
