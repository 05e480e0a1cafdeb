use mathlib.Core.Path.{◌≡◌, refl, ◌∙◌}
use mathlib.Core.Logic.{⊎_elim}
use mathlib.Core.List.{List}
use Prim.Native.Nat.{ℕ, ◌+◌, ◌≤◌, ◌<◌}
use native.Mathlib.Nat.{eq-or-lt_of_le}
use native.Mathlib.Omega.{arith}
use borrow.Author.Rules.{rules}
use lib.Ieee.{Float, of_bits, of_int}
use lib.ListN.{length, get_or, set, length-set}
use lib.Seq.{get_or-set_same, get_or-set_other}
use Rattle.exact.specs.Exact.{ten_of}
use Rattle.exact.specs.ExactLaws.{ten_of_next}
use Rattle.usual_values.proofs.powers.Goals as goal

-- one power more
entry_next : (t : List Float) (k : ℕ) (v : Float) → length t ≡ 23 → k + 1 ≤ 22 → v ≡ ten_of (k + 1) → ((i : ℕ) (x : Float) → i ≤ k → get_or t i x ≡ ten_of i)
    → (i : ℕ) (x : Float) → i ≤ k + 1 → get_or (set t (k + 1) v) i x ≡ ten_of i
entry_next t k v n l e f i x h =
    ⊎_elim
    (λ (q : i ≡ k + 1). rw q (get_or-set_same t (k + 1) v x (omega arith) ∙ e))
    (λ (q : i < k + 1). get_or-set_other t (k + 1) i v x (λ z. omega arith) ∙ f i x (omega arith))
    (eq-or-lt_of_le h)

pub loop-k-init : goal.loop-k-init
unfolding ten_of of_bits of_int
loop-k-init c = record { long = refl; exact = refl; entry = λ i x h. let e : i ≡ 0 = omega arith in rw e refl }

pub loop-k-preserved : goal.loop-k-preserved
loop-k-preserved c =
    let inv = c.loop-k.invariant in
    let few = c.min-last.ensures in
    let power = ten_of_next _ (search rules) inv.exact in
    record {
      long = simp length-set inv.long;
      exact = power;
      entry = entry_next c.loop-k.tens c.loop-k.k _ inv.long (search rules) power inv.entry;
    }

pub returns : goal.returns
returns c =
    let few = c.min-last.ensures in
    record { power = λ k x h. c.loop-k.invariant.entry k x (omega arith) }
