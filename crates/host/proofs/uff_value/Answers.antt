-- `host::uff_value` meets its contract.
use Rattle.host.proofs.uff_value.Goals as goal

pub returns : goal.returns
returns c = rw (← c.value.ensures) c.answer_value.ensures
