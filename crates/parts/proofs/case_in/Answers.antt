-- `parts::case_in` meets its contract.
use mathlib.Core.Path.{ap, ◌∙◌}
use Rattle.record.specs.Declares.{case_in}
use Rattle.parts.proofs.case_in.Goals as goal

pub returns : goal.returns
returns c = c.case_in.ensures ∙ ap case_in c.put_line_at.ensures
