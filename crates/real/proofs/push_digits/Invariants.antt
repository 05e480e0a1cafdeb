-- `real::push_digits` meets its contract.
use mathlib.Core.List.{List}
use Prim.Native.Nat.{ℕ, ◌+◌, ◌^◌, ◌<◌}
use lib.ListN.{take}
use Rattle.text.specs.Parts.{Digits}
use Rattle.real.proofs.push_digits.Given as goal

-- the number so far is what m and the columns passed spell, and has one digit more than they are
pub record Pushed (m : ℕ) (s : List ℕ) (c i : ℕ) : Type 0 where
  pub few : c < 10 ^ (i + 1)
  pub digits : Digits m (take i s) c

abbrev pub invariant-loop-b : goal.invariant-loop-b
invariant-loop-b l = Pushed l.m l.s l.c l.b-index
