-- `values::put_all` meets its contract.
use Rattle.std.proofs.Common.{◌≡◌, List, ℕ, ◌-◌, ◌≤◌, length}
use Rattle.reader.specs.declared.Data.{Data}
use Rattle.reader.specs.Find.{real_at}
use Rattle.values.specs.declared.Turn.{Turn}
use Rattle.values.specs.Spot.{AtSpot}
use Rattle.values.specs.Lines.{filled}
use Rattle.values.proofs.put_all.Given as goal

-- the numbers before this turn's are put
pub record Going (file : List ℕ) (d : Data) (count : ℕ) (out₀ out : List ℕ) (t : Turn) : Type 0 where
  pub at_spot : AtSpot file d t.number t.spot
  pub within : t.number ≤ count
  pub long : length out ≡ length out₀
  pub placed : filled (real_at file d) count t.number out ≡ filled (real_at file d) count 0 out₀

abbrev pub invariant-loop-t : goal.invariant-loop-t
invariant-loop-t l = Going l.file l.p.set l.p.stored l.initial.out l.out l.t

abbrev pub decreases-loop-t : goal.decreases-loop-t
decreases-loop-t l = l.p.stored - l.t.number
