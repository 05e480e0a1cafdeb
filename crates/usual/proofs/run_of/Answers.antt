-- `usual::run_of` meets its contract.
use Rattle.usual.specs.TakenLaws.{ran_none}
use Rattle.usual.proofs.run_of.Goals as goal

pub returns-then-case-ge8 : goal.returns-then-case-ge8
returns-then-case-ge8 c = ran_none _ _ _ _ _ c.no_run.ensures c.requires

pub returns-in_default : goal.returns-in_default
returns-in_default c = ran_none _ _ _ _ _ c.no_run-in_default.ensures c.requires
