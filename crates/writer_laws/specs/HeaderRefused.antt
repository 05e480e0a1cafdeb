-- How a header's twelfth line is refused.
use Rattle.std.specs.Prelude.{true, List, ℕ}
use Rattle.line.specs.Line.{columns, line_fault}
use Rattle.line.specs.declared.Refusal.{Refusal}
use Rattle.header.specs.Header.{past_fault}

-- the refusal of a twelfth line: its own, otherwise 8
abbrev pub twelfth_fault : List ℕ → Refusal
twelfth_fault l = past_fault (line_fault true (columns true l))
