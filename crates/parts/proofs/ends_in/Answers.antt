use native.Mathlib.Omega.{arith}
use Rattle.parts.specs.MarkLaws.{ends_byte, byte_most, ends_none}
use Rattle.parts.proofs.ends_in.Goals as goal

pub overflow_add-ends : goal.overflow_add-ends
overflow_add-ends c = omega (arith, c.loop-b.invariant.most, c.loop-b-test.true, c.requires, byte_most _ _ c.from-ends.ensures)

pub loop-b-preserved : goal.loop-b-preserved
loop-b-preserved c =
    let inv = c.loop-b.invariant in
    let is = c.from-ends.ensures in
    record {
      most = omega (arith, inv.most, byte_most _ _ is);
      same = omega (arith, inv.same, is, ends_byte c.args.bytes.now c.loop-b.b-index c.loop-b-test.true);
    }

pub returns : goal.returns
returns c = omega (arith, ends_none c.args.bytes.now c.loop-b.b-index c.loop-b-test.false, c.loop-b.invariant.same)
