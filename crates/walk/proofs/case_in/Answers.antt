-- `walk::case_in` meets its contract.
use mathlib.Core.Path.{refl, ◌∙◌}
use Rattle.record.specs.Declares.{case_in}
use Rattle.walk.proofs.case_in.Goals as goal

pub returns : goal.returns
unfolding case_in
returns c = c.case_of.ensures ∙ rw (c.number_in-2.ensures, c.number_in.ensures) refl
