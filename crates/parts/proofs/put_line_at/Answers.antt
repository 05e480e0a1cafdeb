-- `parts::put_line_at` meets its contract.
use mathlib.Core.Path.{refl, ◌∙◌}
use Rattle.parts.specs.Scan.{line_from}
use Rattle.parts.proofs.put_line_at.Goals as goal

pub returns : goal.returns
unfolding line_from
returns c = c.put_line.ensures ∙ rw c.line_start-at.ensures.0 refl
