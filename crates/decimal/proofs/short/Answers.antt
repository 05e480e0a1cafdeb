use mathlib.Core.Path.{refl, sym, ◌∙◌, ap}
use native.Mathlib.Omega.{arith}
use Rattle.decimal.specs.Decimal.{short, short_in}
use Rattle.decimal.specs.CountLaws.{short_next, short_last}
use Rattle.decimal.proofs.short.Goals as goal

pub returns-then-n-eq0 : goal.returns-then-n-eq0
unfolding short_in
returns-then-n-eq0 c = sym (ap short c.if-n-eq0.true)

pub loop-rest-init : goal.loop-rest-init
loop-rest-init c = record { some = omega arith; most = omega arith; same = refl }

pub loop-rest-smaller : goal.loop-rest-smaller
loop-rest-smaller c = omega (arith, c.loop-rest.invariant.some)

pub loop-rest-preserved : goal.loop-rest-preserved
loop-rest-preserved c =
    let inv = c.loop-rest.invariant in
    record {
      some = omega (arith, inv.some);
      most = omega (arith, inv.most);
      same = sym (short_next c.loop-rest.rest (omega (arith, inv.most)) inv.some c.loop-rest-test.true) ∙ inv.same;
    }

pub returns : goal.returns
returns c = sym (short_last _ c.loop-rest-test.false) ∙ c.loop-rest.invariant.same
