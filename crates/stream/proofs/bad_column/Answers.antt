-- `stream::bad_column` meets its contract.
use mathlib.Core.Path.{refl, sym, ◌∙◌}
use native.Mathlib.Omega.{arith}
use borrow.Author.Tests.{lt-ltb, le-ltb}
use Rattle.laws.specs.ChoiceLaws.{above_zero_none, above_zero_some}
use Rattle.stream.specs.OpenLineLaws.{bad_most, first_bad_from}
use Rattle.stream.proofs.bad_column.Goals as goal

pub returns-then-bad-gt0 : goal.returns-then-bad-gt0
returns-then-bad-gt0 c = rw (lt-ltb _ _ c.if-bad-gt0.true) refl

pub overflow_add-result : goal.overflow_add-result
overflow_add-result c =
    let there = above_zero_some _ _ (sym c.in-Some.is ∙ c.first_bad.ensures) in
    omega (arith, bad_most c.args.bytes.now, there.0, c.requires)

pub returns-in-Some : goal.returns-in-Some
returns-in-Some c =
    let there = above_zero_some _ _ (sym c.in-Some.is ∙ c.first_bad.ensures) in
    let from = first_bad_from c.args.held 1 c.args.bytes.now (omega arith) in
    rw (le-ltb _ _ c.if-bad-gt0.false, from, ← there.0, lt-ltb _ _ there.1) refl

pub returns-in-None : goal.returns-in-None
returns-in-None c =
    let none = above_zero_none _ (sym c.in-None.is ∙ c.first_bad.ensures) in
    let from = first_bad_from c.args.held 1 c.args.bytes.now (omega arith) in
    rw (le-ltb _ _ c.if-bad-gt0.false, from, none) refl
