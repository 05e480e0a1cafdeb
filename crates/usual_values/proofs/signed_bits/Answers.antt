-- `usual_values::signed_bits` meets its contract.
use mathlib.Core.Path.{refl, ◌∙◌, sym}
use native.Mathlib.Omega.{arith}
use Rattle.usual_values.specs.NumberLaws.{signed_bits, bits_room}
use Rattle.usual_values.proofs.signed_bits.Goals as goal

pub overflow_add-result : goal.overflow_add-result
overflow_add-result c = omega (arith, c.bits-pattern.ensures, bits_room _ c.requires)

pub returns-then-minus : goal.returns-then-minus
returns-then-minus c = rw c.if-minus.true (omega (arith, c.bits-pattern.ensures, signed_bits _ c.requires.unsigned))

pub returns : goal.returns
returns c = c.bits-pattern.ensures ∙ sym (rw c.if-minus.false refl)
