-- `parts::declared_at` meets its contract.
use mathlib.Core.Path.{refl}
use borrow.Author.Tests.{eq-eqb, ne_eqb}
use Prim.Native.Nat.{◌*◌, ◌≤◌}
use Rattle.parts.specs.Counted.{declared_at}
use Rattle.parts.specs.CountedLaws.{stored_most}
use Rattle.record.specs.Declares.{stored_in}
use borrow.Author.Rules.{rules}
use Rattle.parts.proofs.declared_at.Goals as goal

pub returns-then-e-ne58 : goal.returns-then-e-ne58
unfolding declared_at
returns-then-e-ne58 c = rw (ne_eqb _ _ c.if-e-ne58.true) refl

pub overflow_mul-result : goal.overflow_mul-result
overflow_mul-result c =
    let h : c.count_in.result * c.numbers_of.result ≤ c.count_in.result * 3 = stored_most _ _ _ c.numbers_of.ensures in
    search rules

pub returns : goal.returns
unfolding declared_at stored_in
returns c = rw (eq-eqb _ _ c.if-e-ne58.false, c.numbers_of.ensures, c.count_in.ensures, c.case_in-case.ensures, c.put_line_at.ensures) refl
