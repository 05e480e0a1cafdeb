-- `field::field_number` meets its contract.
use mathlib.Core.Path.{refl, sym, ap, ◌∙◌}
use Rattle.codes.specs.Form.{form_of, forms}
use Rattle.field.specs.Field.{field_number, answered}
use Rattle.field.specs.FieldLaws.{field_number_integer, field_number_low, field_number_past}
use native.Mathlib.Omega.{arith}
use Rattle.field.proofs.field_number.Goals as goal

pub returns-then-form-eq-REAL : goal.returns-then-form-eq-REAL
unfolding field_number form_of forms
returns-then-form-eq-REAL c = rw c.if-form-eq-REAL.true c.real_number.ensures

pub returns-then-is_blank : goal.returns-then-is_blank
unfolding field_number form_of forms
returns-then-is_blank c = rw (c.if-form-eq-IDENTIFICATION.true, ← c.is_blank.ensures, c.if-is_blank.true) refl

pub returns-then-form-eq-IDENTIFICATION : goal.returns-then-form-eq-IDENTIFICATION
unfolding field_number form_of forms
returns-then-form-eq-IDENTIFICATION c = rw (c.if-form-eq-IDENTIFICATION.true, ← c.is_blank.ensures, c.if-is_blank.false) refl

pub returns-then-form-lt-INTEGER : goal.returns-then-form-lt-INTEGER
returns-then-form-lt-INTEGER c = ap answered (sym (field_number_low _ c.args.may c.args.field.now (omega arith)))

pub returns-then-form-gt-LAST_FORM : goal.returns-then-form-gt-LAST_FORM
returns-then-form-gt-LAST_FORM c = ap answered (sym (field_number_past _ c.args.may c.args.field.now c.if-form-gt-LAST_FORM.true))

pub returns : goal.returns
returns c = c.integer_number.ensures ∙ ap answered (sym (field_number_integer _ _ _ (omega arith) (omega arith)))
