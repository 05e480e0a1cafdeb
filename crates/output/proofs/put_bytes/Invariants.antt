-- `output::put_bytes` meets its contract.
use Prim.Native.Nat.{◌-◌}
use Rattle.output.specs.Output.{Put, bytes_of}
use Rattle.output.proofs.put_bytes.Given as goal

-- the bytes of what is left of the number, from byte i on, are still to come
abbrev pub invariant-loop-i : goal.invariant-loop-i
invariant-loop-i l = Put l.at (bytes_of (l.past - l.at) l.number) l.initial.out l.i (bytes_of (l.past - l.i) l.rest) l.out
