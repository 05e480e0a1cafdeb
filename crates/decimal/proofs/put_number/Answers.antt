-- `decimal::put_number` meets its contract.
use mathlib.Core.Path.{◌∙◌}
use native.Mathlib.Omega.{arith}
use Rattle.decimal.specs.CountLaws.{count_in_least}
use Rattle.decimal.specs.PutLaws.{field_blank, field_laid}
use Rattle.decimal.proofs.put_number.Goals as goal

pub returns-then-out-lt7 : goal.returns-then-out-lt7
returns-then-out-lt7 c = c.put_blanks.ensures ∙ field_blank _ _ _ _ (omega (arith, c.if-out-lt7.true))

pub returns-then-out-decimals : goal.returns-then-out-decimals
returns-then-out-decimals c = c.put_blanks-then-out-decimals.ensures ∙ field_blank _ _ _ _ (omega (arith, c.if-out-decimals.true, c.if-out-lt7.false))

pub spare-zeros-requires : goal.spare-zeros-requires
spare-zeros-requires c = omega (arith, c.count.ensures, count_in_least 19 c.short-number.result)

pub returns : goal.returns
returns c =
    let args = c.args in
    let fits = c.ranges in
    let below = c.is_below in
    let size = c.size_of-n in
    let short = c.short-number in
    let count = c.count in
    let spare = c.spare-zeros in
    let exponent = c.exponent in
    let wide = c.if-out-decimals.false in
    let laid = field_laid _ _ args.coefficient args.scale below.result size.result short.result count.result spare.result exponent.result in
    c.put_parts.ensures
    ∙ laid (omega (arith, wide, c.if-out-lt7.false)) fits.coefficient fits.scale below.ensures size.ensures short.ensures count.ensures spare.ensures exponent.ensures
