-- `intake::read_full` ends, since each turn leaves less to fill.
use Rattle.std.proofs.Common.{ℕ, ◌-◌, ◌≤◌, List, Option, length, take}
use Rattle.std.specs.Io.KnownBytes.{Consumes}
use Rattle.intake.proofs.read_full.Given as goal

pub record Filled (R : Type 0) (left : R → Option (List ℕ)) (old new : R) (buffer : List ℕ) (filled : ℕ) : Type 0 where
  pub within : filled ≤ length buffer
  pub bytes : Consumes (left old) (left new) (take filled buffer)

abbrev pub invariant-loop-filled : goal.invariant-loop-filled
invariant-loop-filled g l = Filled _ g.R.Read.remaining l.initial.input l.input l.buffer l.filled

abbrev pub decreases-loop-filled : goal.decreases-loop-filled
decreases-loop-filled g l = length l.buffer - l.filled
