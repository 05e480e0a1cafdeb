-- `real::is_lettered` meets its contract.
use Rattle.real.specs.Plain.{is_lettered}
use Rattle.real.proofs.is_lettered.Goals as goal

pub returns : goal.returns
unfolding is_lettered
returns c = simp c.is_letter.ensures
