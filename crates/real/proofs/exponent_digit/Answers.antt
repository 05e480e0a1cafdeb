-- `real::exponent_digit` meets its contract.
use Rattle.real.proofs.exponent_digit.Goals as goal

pub returns : goal.returns
returns c = simp c.push_exponent-x.ensures
