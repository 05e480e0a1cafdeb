-- `usual::run_ahead` meets its contract.
use Rattle.usual.specs.TakenLaws.{ahead_none}
use Rattle.usual.proofs.run_ahead.Goals as goal

pub returns-in_default : goal.returns-in_default
returns-in_default c = ahead_none _ _ _ _ c.not_ahead.ensures c.requires
