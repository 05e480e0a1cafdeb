-- `magnitude`: the coefficient is cast where the cast is exact.
use lib.Dec.{le→leb}
use lib.Ieee.{in_float}
use Rattle.exact.specs.Exact.{magnitude_of}
use Rattle.exact.proofs.magnitude.Goals as goal

pub int_to_float-c : goal.int_to_float-c
unfolding in_float
int_to_float-c c = le→leb _ _ c.requires.coefficient_bound

pub returns-then-below : goal.returns-then-below
unfolding magnitude_of
returns-then-below c = simp (c.ten-t.ensures, c.from.ensures, c.if-below.true)

pub returns : goal.returns
unfolding magnitude_of
returns c = simp (c.ten-t.ensures, c.from.ensures, c.if-below.false)
