-- `parts::counted_at` meets its contract.
use mathlib.Core.Path.{refl, ◌∙◌}
use borrow.Author.Tests.{eq-eqb, ne_eqb}
use Rattle.parts.specs.Counted.{counted_at}
use Rattle.parts.specs.CountedLaws.{not_zero, declared_case, last_few, past_start}
use native.Mathlib.Omega.{arith}
use Rattle.parts.proofs.counted_at.Goals as goal

pub returns-then-d-eq0 : goal.returns-then-d-eq0
unfolding counted_at
returns-then-d-eq0 c = rw (← c.declared_at-d.ensures, eq-eqb _ _ c.if-d-eq0.true) refl

pub last_field-field-requires : goal.last_field-field-requires
last_field-field-requires c = (declared_case _ _ _ c.declared_at-d.ensures c.if-d-eq0.false, not_zero _ c.if-d-eq0.false)

pub overflow_add-field : goal.overflow_add-field
overflow_add-field c =
    let found = c.declared_at-d in
    let case = declared_case _ _ _ found.ensures c.if-d-eq0.false in
    omega (arith, c.last_field-field.ensures, last_few found.result.case found.result.stored case)

pub returns : goal.returns
unfolding counted_at
returns c =
    let past = c.field_start.ensures ∙ past_start _ _ _ c.last_field-field.ensures in
    rw (← c.declared_at-d.ensures, ne_eqb _ _ c.if-d-eq0.false, past) refl
