use Prim.Native.Nat.{◌-◌}
use native.Mathlib.Omega.{arith}
use Rattle.output.specs.OutputLaws.{put_byte, put_done, bytes_of_length, bytes_of_next, bytes_of_none}
use Rattle.output.proofs.put_bytes.Goals as goal

pub loop-i-preserved : goal.loop-i-preserved
loop-i-preserved c =
    let room = bytes_of_length (c.args.past - c.args.at) c.args.number in
    put_byte _ _ _ _ _ _ c.loop-i.invariant (omega (arith, room, c.requires)) _ _ (bytes_of_next _ _ _ c.loop-i-test.true)

pub returns : goal.returns
returns c = (put_done _ _ _ _ _ _ c.loop-i.invariant (bytes_of_none _ _ _ c.loop-i-test.false)).1
