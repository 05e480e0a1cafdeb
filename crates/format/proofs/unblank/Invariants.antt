-- `format::unblank` meets its contract.
use Rattle.std.proofs.Common.{◌≡◌, ◌≤◌, length, take}
use Rattle.format.specs.Format.{unblanked}
use Rattle.format.proofs.unblank.Given as goal

-- n bytes of the buffer are those of the first ones that are no blanks
abbrev pub invariant-loop-b : goal.invariant-loop-b
invariant-loop-b l = record { within : l.n ≤ l.b-index; size : length l.out ≡ 120; bytes : take l.n l.out ≡ unblanked (take l.b-index l.text) }
