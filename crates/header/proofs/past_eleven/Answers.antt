use mathlib.Core.Path.{refl}
use Rattle.laws.specs.Cut.{cut}
use Rattle.header.specs.HeaderLaws.{lines_to_lem, rest_to, all_few}
use native.Mathlib.Omega.{arith}
use borrow.Author.Rules.{rules}
use Rattle.header.proofs.past_eleven.Goals as goal

pub loop-init : goal.loop-init
unfolding cut
loop-init c = record { within = search rules; few = search rules; lines_are = refl; whole = refl }

pub returns-then-header-end : goal.returns-then-header-end
returns-then-header-end c =
    let inv = c.loop.invariant in
    let below = c.loop-test.true in
    all_few c.args.header.now _ _ inv.within c.find_end-end.ensures inv.whole c.if-header-end.true (omega (arith, inv.lines_are, below))

pub loop-preserved : goal.loop-preserved
loop-preserved c =
    let inv = c.loop.invariant in
    let one_more = lines_to_lem c.args.header.now _ _ inv.within c.find_end-end.ensures inv.whole c.if-header-end.false in
    record {
      within = search rules;
      few = search rules;
      lines_are = omega (arith, inv.lines_are, one_more);
      whole = rest_to c.args.header.now _ _ inv.within c.find_end-end.ensures inv.whole c.if-header-end.false;
    }

pub returns : goal.returns
returns c =
    let inv = c.loop.invariant in
    record { within = inv.within; few = omega (arith, inv.few, inv.lines_are); full = λ l. omega (arith, inv.lines_are, c.loop-test.false) }
