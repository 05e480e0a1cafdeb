-- `values::first_spot` meets its contract.
use Rattle.values.specs.SpotLaws.{spot_first}
use Rattle.values.proofs.first_spot.Goals as goal

pub returns : goal.returns
returns c = (spot_first _ _ _ c.line_start-line.ensures.0, c.line_start-line.ensures.1)
