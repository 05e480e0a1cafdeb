-- `real::plain_exponent` meets its contract.
use Rattle.std.proofs.Common.{arith, sym, ◌∙◌}
use Rattle.real.proofs.PlainLaws.{lettered_last, bare_last, few_last}
use Rattle.real.proofs.plain_exponent.Goals as goal

pub overflow_cast-result : goal.overflow_cast-result
overflow_cast-result c = omega (arith, few_last c.args.s.now c.requires 2 (omega arith) c.in_ok-size.ensures)

pub returns-then-is_lettered : goal.returns-then-is_lettered
returns-then-is_lettered c =
    let few = c.in_ok-size.ensures in
    (few_last c.args.s.now c.requires 2 (omega arith) few, lettered_last c.args.s.now c.requires (sym c.is_lettered.ensures ∙ c.if-is_lettered.true) few)

pub overflow_cast-result-then-is_bare : goal.overflow_cast-result-then-is_bare
overflow_cast-result-then-is_bare c = omega (arith, few_last c.args.s.now c.requires 3 (omega arith) c.in_ok-size-2.ensures)

pub returns-then-is_bare : goal.returns-then-is_bare
returns-then-is_bare c =
    let few = c.in_ok-size-2.ensures in
    (few_last c.args.s.now c.requires 3 (omega arith) few, bare_last c.args.s.now c.requires _ (sym c.is_bare.ensures ∙ c.if-is_bare.true) few)
