-- `exact_f64`: each way through the code is one way through `exact_of`.
use native.Mathlib.Omega.{arith}
use borrow.Author.Tests.{le-leb, lt-leb}
use Rattle.exact.specs.Exact.{exact_of}
use Rattle.exact.proofs.exact_f64.Goals as goal

pub returns-then-coefficient-gt9007199254740992 : goal.returns-then-coefficient-gt9007199254740992
unfolding exact_of
returns-then-coefficient-gt9007199254740992 c = simp (lt-leb c.args.coefficient 9007199254740992 (omega arith))

pub returns-then-scale-gt22 : goal.returns-then-scale-gt22
unfolding exact_of
returns-then-scale-gt22 c = simp (lt-leb c.args.scale 22 (omega arith), le-leb c.args.coefficient 9007199254740992 (omega arith))

pub returns-then-minus : goal.returns-then-minus
unfolding exact_of
returns-then-minus c =
    simp (
      c.if-minus.true,
      c.magnitude-m.ensures,
      le-leb c.args.scale 22 (omega arith),
      le-leb c.args.coefficient 9007199254740992 (omega arith),
    )

pub returns : goal.returns
unfolding exact_of
returns c =
    simp (
      c.if-minus.false,
      c.magnitude-m.ensures,
      le-leb c.args.scale 22 (omega arith),
      le-leb c.args.coefficient 9007199254740992 (omega arith),
    )
