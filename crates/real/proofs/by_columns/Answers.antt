-- `real::by_columns` meets its contract.
use Rattle.std.proofs.Common.{arith, sym, ◌∙◌}
use Rattle.real.proofs.PlainLaws.{columns_real, number_of_end}
use Rattle.real.proofs.by_columns.Goals as goal

pub returns : goal.returns
returns c =
    let e = c.in_ok-e.ensures in
    number_of_end c.ok.ensures.value
    (c.finish.ensures ∙ columns_real _ _ c.requires (omega (arith, c.if-digits-eq0.false)) c.if-digits-gt18.false c.in_ok-push_digits.ensures c.in_ok-c.ensures e.1 e.0)
