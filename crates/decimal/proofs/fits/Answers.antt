-- `decimal::fits` meets its contract.
use mathlib.Core.Path.{◌∙◌, ap}
use native.Mathlib.Omega.{arith}
use lib.IntN.{nat_abs}
use mir.Syntax.{w64}
use mir.ValLaws.{to_z-of_z}
use Rattle.decimal.specs.SignLaws.{exponent_back}
use Rattle.decimal.specs.CountLaws.{count_in_least}
use Rattle.decimal.specs.FitsLaws.{fits_not, fits_rest}
use Rattle.decimal.proofs.fits.Goals as goal

pub overflow_sub-digits : goal.overflow_sub-digits
overflow_sub-digits c = omega (arith, c.count-digits.ensures, count_in_least 19 c.short.result)

pub returns-then-decimals-digits : goal.returns-then-decimals-digits
returns-then-decimals-digits c =
    let size = c.size_of-n.ensures ∙ ap nat_abs (to_z-of_z w64 _ c.ranges.coefficient) in
    fits_not _ c.args.coefficient _ _ _ _ size c.short.ensures c.count-digits.ensures c.if-decimals-digits.true

pub returns : goal.returns
returns c =
    let args = c.args in
    let size = c.size_of-n in
    let exponent = c.exponent-x in
    let own-size = size.ensures ∙ ap nat_abs (to_z-of_z w64 args.coefficient c.ranges.coefficient) in
    let back = exponent_back size.result args.scale exponent.result c.ranges.scale exponent.ensures in
    let rest = fits_rest _ args.coefficient args.scale size.result _ _ _ own-size c.short.ensures in
    rest c.count-digits.ensures c.if-decimals-digits.false (c.size_of.ensures ∙ ap nat_abs back)
