-- `field::integer_number` meets its contract.
use Rattle.field.specs.FieldLaws.{integer_number_value}
use Rattle.std.proofs.Common.{refl, sym, ◌∙◌}
use Rattle.field.proofs.integer_number.Goals as goal

pub returns-then-allowed : goal.returns-then-allowed
returns-then-allowed c =
    let read = sym c.integer_field.ensures ∙ c.in-Ok.is in
    rw (integer_number_value _ _ _ c.in-Ok.i.minus c.in-Ok.i.size read (sym c.allowed.ensures ∙ c.if-allowed.true)) refl

pub returns-else-allowed : goal.returns-else-allowed
returns-else-allowed c =
    let read = sym c.integer_field.ensures ∙ c.in-Ok.is in
    rw (integer_number_value _ _ _ c.in-Ok.i.minus c.in-Ok.i.size read (sym c.allowed.ensures ∙ c.if-allowed.false)) refl
