-- `pushed`: a size of at most 2^32 leaves room for one digit more.
use native.Mathlib.Omega.{arith}
use Rattle.integer.specs.Integer.{push}
use Rattle.integer.proofs.pushed.Goals as goal

pub returns : goal.returns
unfolding push
returns c = omega (arith, c.min.ensures, c.min-2.ensures)
