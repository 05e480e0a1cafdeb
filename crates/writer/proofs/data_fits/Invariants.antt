-- `writer::data_fits` meets its contract: what is left is the room less the length of the first j numbers.
use mathlib.Core.Path.{◌≡◌}
use Prim.Native.Nat.{◌+◌, ◌-◌}
use Rattle.writer.specs.Lines.{data_len}
use Rattle.writer.proofs.data_fits.Given as goal

abbrev pub invariant-loop-j : goal.invariant-loop-j
invariant-loop-j l = data_len l.case 0 l.count + l.left ≡ l.room + data_len l.case l.j (l.count - l.j)
