-- `usual::line_passes` meets its contract.
use Rattle.usual.specs.TakenLaws.{line_of_lem}
use Rattle.usual.proofs.line_passes.Goals as goal

pub returns : goal.returns
returns c = λ h. line_of_lem _ _ _ _ _ c.requires.1 c.passes.ensures h c.if-s-at-lt82.false
