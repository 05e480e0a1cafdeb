-- `values::look_all` meets its contract.
use Rattle.std.proofs.Common.{◌≡◌, List, ℕ, ◌-◌, ◌≤◌}
use Rattle.reader.specs.declared.Data.{Data}
use Rattle.reader.specs.Reader.{reads}
use Rattle.reader.specs.Find.{real_at}
use Rattle.values.specs.declared.Turn.{Turn}
use Rattle.values.specs.Fill.{refusal_in}
use Rattle.values.specs.Spot.{AtSpot}
use Rattle.values.proofs.look_all.Given as goal

-- none of the numbers before this turn's is refused
pub record Going (file : List ℕ) (d : Data) (count : ℕ) (t : Turn) : Type 0 where
  pub at_spot : AtSpot file d t.number t.spot
  pub within : t.number ≤ count
  pub same : refusal_in (reads (real_at file d) t.number (count - t.number)) ≡ refusal_in (reads (real_at file d) 0 count)

abbrev pub invariant-loop-t : goal.invariant-loop-t
invariant-loop-t l = Going l.file l.p.set l.p.stored l.t

abbrev pub decreases-loop-t : goal.decreases-loop-t
decreases-loop-t l = l.p.stored - l.t.number
