-- `host::uff_number` meets its contract.
use Rattle.host.proofs.uff_number.Goals as goal

pub returns : goal.returns
returns c = rw (← c.number.ensures) c.answer_number.ensures
