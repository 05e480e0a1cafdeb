-- `real::head_of` meets its contract.
use Rattle.std.proofs.Common.{arith}
use Rattle.real.proofs.PlainLaws.{shifted_front}
use Rattle.real.proofs.head_of.Goals as goal

pub returns : goal.returns
returns c =
    let digits = c.past_digits-point.ensures in (
      shifted_front _ _ _ _ c.if-s-lt9.false c.blanks_before-blanks.ensures c.if-s-blanks.false
          c.sign_len.ensures.0
          digits.onward
          (omega (arith, c.if-s-point.false, c.if-s-lt9.false))
          c.if-s-point-ne46.false,
      digits,
    )
