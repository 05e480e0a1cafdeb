-- `walk::opened` meets its contract.
use mathlib.Core.Path.{sym, ◌∙◌}
use Rattle.walk.specs.Step.{opened}
use Rattle.walk.proofs.opened.Goals as goal

pub returns-then-is_typed : goal.returns-then-is_typed
unfolding opened
returns-then-is_typed c = simp (sym c.is_typed.ensures ∙ c.if-is_typed.true, c.kind_of.ensures)

pub returns : goal.returns
unfolding opened
returns c = simp (sym c.is_typed.ensures ∙ c.if-is_typed.false)
