-- `walk::after_data_form` meets its contract.
use mathlib.Core.Path.{refl}
use Prim.Native.Nat.{◌≤◌}
use native.Mathlib.Nat.{mul-le-mul_left}
use native.Mathlib.Omega.{arith}
use Rattle.record.specs.Declares.{stored_in}
use Rattle.walk.specs.DueLaws.{numbers_of_few}
use Rattle.walk.proofs.after_data_form.Goals as goal

pub overflow_mul-result : goal.overflow_mul-result
overflow_mul-result c = let few : c.numbers_of.result ≤ 3 = rw c.numbers_of.ensures (numbers_of_few _) in omega (arith, mul-le-mul_left c.count_in-values.result few)

pub returns : goal.returns
unfolding stored_in
returns c = rw (c.numbers_of.ensures, c.count_in-values.ensures, c.case_in-case.ensures) refl
