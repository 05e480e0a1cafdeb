-- `host::uff_field` meets its contract.
use Rattle.host.proofs.uff_field.Goals as goal

pub returns : goal.returns
returns c = rw (← c.ask.ensures) c.answer_field.ensures
