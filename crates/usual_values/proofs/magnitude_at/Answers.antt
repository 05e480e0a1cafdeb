-- `usual_values::magnitude_at` meets its contract.
use borrow.Author.Tests.{lt-ltb, le-ltb}
use lib.Dec.{le→leb}
use lib.IntN.{pos}
use lib.Ieee.{Float, binary64, in_float, of_int, mul, div}
use native.Mathlib.Omega.{arith}
use Prim.Native.Nat.{◌-◌, ◌≤◌}
use mathlib.Core.Path.{ap}
use Rattle.exact.specs.Exact.{magnitude_of}
use Rattle.usual_values.specs.Number.{magnitude_at}
use Rattle.usual_values.proofs.magnitude_at.Goals as goal

pub int_to_float-c : goal.int_to_float-c
unfolding in_float
int_to_float-c c = le→leb _ _ c.requires.0

pub returns-then-place-lt22 : goal.returns-then-place-lt22
unfolding magnitude_at magnitude_of
returns-then-place-lt22 c =
    let least : 22 - c.args.place ≤ 22 = omega arith in
    rw (lt-ltb _ 22 c.if-place-lt22.true) (ap (λ (t : Float). div binary64 (of_int binary64 (pos c.args.coefficient)) t) (c.requires.1.1.power _ _ least))

pub returns : goal.returns
unfolding magnitude_at magnitude_of
returns c =
    let most : c.args.place - 22 ≤ 22 = omega arith in
    rw (le-ltb _ 22 c.if-place-lt22.false) (ap (λ (t : Float). mul binary64 (of_int binary64 (pos c.args.coefficient)) t) (c.requires.1.1.power _ _ most))
