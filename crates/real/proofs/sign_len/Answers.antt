-- `real::sign_len` meets its contract.
use mathlib.Core.Path.{refl}
use native.Mathlib.Omega.{arith}
use Rattle.real.specs.Plain.{sign_length}
use Rattle.real.proofs.sign_len.Goals as goal

pub returns-then-b : goal.returns-then-b
unfolding sign_length
returns-then-b c = (rw c.if-b.true refl, omega arith)

pub returns : goal.returns
unfolding sign_length
returns c = (rw c.if-b.false refl, omega arith)
