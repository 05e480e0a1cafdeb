use mathlib.Core.Path.{refl, sym, ap, ◌∙◌}
use mathlib.Core.List.{List}
use Prim.Native.Nat.{ℕ}
use lib.ListN.{length}
use Rattle.parts.specs.TurnLaws.{turn, between_start, next_is, between_next}
use Rattle.rewriter.proofs.PutLaws.{rewritten_start, file_most, turn_none, turn_within, turn_length}
use native.Mathlib.Omega.{arith}
use Rattle.rewriter.proofs.rewritten_len.Goals as goal

pub loop-set-init : goal.loop-set-init
loop-set-init c =
    let file : List ℕ = c.args.file.now in
    record { between = between_start file _ refl; measured = omega (arith, ap length (rewritten_start file)) }

pub next_set-requires : goal.next_set-requires
next_set-requires c = (c.loop-set.invariant.between.within, c.loop-set.invariant.between.lines)

pub set_len-n-requires : goal.set_len-n-requires
set_len-n-requires c =
    let t = turn _ _ _ _ (next_is _ _ _ _ _ c.loop-set.invariant.between (sym c.in-Some.is ∙ c.next_set.ensures)) in
    (c.requires, turn_within _ _ _ _ t)

pub overflow_add-n : goal.overflow_add-n
overflow_add-n c =
    let inv = c.loop-set.invariant in
    let t = turn _ _ _ _ (next_is _ _ _ _ _ inv.between (sym c.in-Some.is ∙ c.next_set.ensures)) in
    omega (arith, c.set_len-n.ensures, inv.measured, c.requires, turn_length _ _ _ _ t, file_most c.args.file.now)

pub loop-set-smaller : goal.loop-set-smaller
loop-set-smaller c =
    let t = turn _ _ _ _ (next_is _ _ _ _ _ c.loop-set.invariant.between (sym c.in-Some.is ∙ c.next_set.ensures)) in
    omega (arith, t.onward, t.within)

pub loop-set-preserved : goal.loop-set-preserved
loop-set-preserved c =
    let inv = c.loop-set.invariant in
    let b = next_is _ _ _ _ _ inv.between (sym c.in-Some.is ∙ c.next_set.ensures) in
    record {
      between = between_next _ _ _ _ b _ refl;
      measured = omega (arith, c.set_len-n.ensures, inv.measured, turn_length _ _ _ _ (turn _ _ _ _ b));
    }

pub returns : goal.returns
returns c =
    let inv = c.loop-set.invariant in
    let b = next_is _ _ _ _ _ inv.between (sym c.in_default.is ∙ c.next_set.ensures) in
    omega (arith, inv.measured, ap length (turn_none _ _ _ b))
