-- `host::answer_reals` meets its contract: the first i are laid.
use mathlib.Core.Path.{◌≡◌}
use lib.ListN.{take}
use Rattle.output.specs.Output.{placed}
use Rattle.host.specs.Answer.{value_bytes}
use Rattle.host.proofs.answer_reals.Given as goal

abbrev pub invariant-loop-i : goal.invariant-loop-i
invariant-loop-i l = l.out ≡ placed 0 (value_bytes (take l.i l.xs)) l.initial.out
