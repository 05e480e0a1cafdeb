-- `real::is_bare` meets its contract.
use Rattle.real.specs.Plain.{is_bare}
use Rattle.real.proofs.is_bare.Goals as goal

pub returns : goal.returns
unfolding is_bare
returns c = simp c.is_letter.ensures
