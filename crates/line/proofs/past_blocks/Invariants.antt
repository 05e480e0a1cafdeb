-- `line::past_blocks` meets its contract.
use Rattle.std.proofs.Common.{◌≡◌, ◌+◌, ◌*◌, drop}
use Rattle.laws.specs.Cut.{line_len}
use Rattle.line.proofs.past_blocks.Given as goal

abbrev pub invariant-loop-k : goal.invariant-loop-k
invariant-loop-k l = (l.from + 16 * l.k) + line_len (drop (l.from + 16 * l.k) l.file) ≡ l.from + line_len (drop l.from l.file)
