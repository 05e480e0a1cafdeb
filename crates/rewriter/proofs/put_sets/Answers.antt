use mathlib.Core.Path.{refl, sym, ◌∙◌}
use Rattle.output.specs.OutputLaws.{put_start, put_done}
use Rattle.parts.specs.TurnLaws.{turn, between_start, next_is, between_next}
use Rattle.rewriter.proofs.PutLaws.{rewritten_start, turn_none, turn_within, set_room, set_next}
use native.Mathlib.Omega.{arith}
use Rattle.rewriter.proofs.put_sets.Goals as goal

pub loop-set-init : goal.loop-set-init
loop-set-init c = record { between = between_start _ _ refl; put = rw (rewritten_start _) (put_start _ _ _) }

pub next_set-requires : goal.next_set-requires
next_set-requires c = (c.loop-set.invariant.between.within, c.loop-set.invariant.between.lines)

pub put_set-past-requires : goal.put_set-past-requires
put_set-past-requires c =
    let t = turn _ _ _ _ (next_is _ _ _ _ _ c.loop-set.invariant.between (sym c.in-Some.is ∙ c.next_set.ensures)) in
    (turn_within _ _ _ _ t, set_room _ _ c.requires _ _ _ t _ _ c.loop-set.invariant.put)

pub loop-set-smaller : goal.loop-set-smaller
loop-set-smaller c =
    let t = turn _ _ _ _ (next_is _ _ _ _ _ c.loop-set.invariant.between (sym c.in-Some.is ∙ c.next_set.ensures)) in
    omega (arith, t.onward, t.within)

pub loop-set-preserved : goal.loop-set-preserved
loop-set-preserved c =
    let inv = c.loop-set.invariant in
    let b = next_is _ _ _ _ _ inv.between (sym c.in-Some.is ∙ c.next_set.ensures) in
    record {
      between = between_next _ _ _ _ b _ refl;
      put = set_next _ _ c.requires _ _ _ (turn _ _ _ _ b) _ _ inv.put _ _ c.put_set-past.ensures.0 c.put_set-past.ensures.1;
    }

pub shape_of-out : goal.shape_of-out
shape_of-out c = c.loop-set.invariant.put.same

pub returns : goal.returns
returns c =
    let inv = c.loop-set.invariant in
    let b = next_is _ _ _ _ _ inv.between (sym c.in_default.is ∙ c.next_set.ensures) in
    let done = put_done _ _ _ _ _ _ inv.put (turn_none _ _ _ b) in
    (omega (arith, done.0), done.1)
