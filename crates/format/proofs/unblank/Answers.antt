-- `format::unblank` meets its contract.
use Rattle.std.proofs.Common.{◌<◌, length, refl, arith}
use Rattle.format.specs.Format.{unblanked}
use Rattle.format.proofs.RowLaws.{unblanked_blank, unblanked_byte}
use Rattle.format.proofs.unblank.Goals as goal
use Rattle.format.proofs.unblank.Goals.{then-b-ne32, else-b-ne32}

pub loop-b-init : goal.loop-b-init
unfolding unblanked
loop-b-init c = record { within = omega arith; size = refl; bytes = refl }

pub loop-b-preserved : goal.loop-b-preserved
loop-b-preserved c = elim c.if-b-ne32.branch [
  | then-b-ne32 w ↦
      let inv = c.loop-b.invariant in
      let room : c.loop-b.n < length c.loop-b.out = omega (arith, inv.within, inv.size, c.requires) in
      record {
        within = omega (arith, inv.within, w.n-is);
        size = c.if-b-ne32.array_long;
        bytes = rw (w.n-is, w.out-is) (unblanked_byte _ _ c.loop-b-test.true _ _ inv.bytes w.if-b-ne32.true room);
      }
  | else-b-ne32 w ↦
      let inv = c.loop-b.invariant in
      record {
        within = omega (arith, inv.within, w.n-is);
        size = c.if-b-ne32.array_long;
        bytes = rw (w.n-is, w.out-is) (unblanked_blank _ _ c.loop-b-test.true _ _ inv.bytes w.if-b-ne32.false);
      }
]
