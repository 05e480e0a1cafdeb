-- `decimal::put_exponent` meets its contract.
use mathlib.Core.Path.{◌∙◌, ap}
use lib.IntN.{nat_abs}
use mir.Syntax.{w64}
use mir.ValLaws.{to_z-of_z}
use Rattle.real.specs.Real.{below_zero}
use Rattle.decimal.specs.Decimal.{sign_byte}
use Rattle.decimal.specs.PutLaws.{letter_laid, bare_laid}
use Rattle.decimal.proofs.put_exponent.Goals as goal

pub returns-then-n-le99 : goal.returns-then-n-le99
returns-then-n-le99 c =
    let z = to_z-of_z w64 c.args.x c.ranges.x in
    letter_laid c.args.out.now c.args.x c.sign-sign_byte.result c.size_of-n.result c.requires
    (c.sign-sign_byte.ensures ∙ ap sign_byte (c.is_below.ensures ∙ ap below_zero z)) (c.size_of-n.ensures ∙ ap nat_abs z) c.if-n-le99.true

pub returns : goal.returns
returns c =
    let z = to_z-of_z w64 c.args.x c.ranges.x in
    bare_laid c.args.out.now c.args.x c.sign-sign_byte.result c.size_of-n.result c.requires
    (c.sign-sign_byte.ensures ∙ ap sign_byte (c.is_below.ensures ∙ ap below_zero z)) (c.size_of-n.ensures ∙ ap nat_abs z) c.if-n-le99.false
