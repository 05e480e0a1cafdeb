-- `real::looks_real` meets its contract.
use Rattle.std.proofs.Common.{arith, sym, ◌∙◌}
use Rattle.real.proofs.PlainLaws.{looks_valued, some_then}
use Rattle.real.proofs.looks_real.Goals as goal

pub returns : goal.returns
returns c =
    let head = c.in-Some.ensures in
    λ q. some_then _ (sym c.is_some.ensures ∙ q) c.plain_exponent.ensures
    (λ e x. looks_valued _ (omega (arith, c.if-s-gt22.false)) head.0 head.1 c.past_digits.ensures c.if-past_digits-past.false (omega (arith, c.if-past-head.false)) x.1)
