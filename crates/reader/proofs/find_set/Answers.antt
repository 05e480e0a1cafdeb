use mathlib.Core.Path.{refl, sym, ◌∙◌}
use native.Mathlib.Omega.{arith}
use Rattle.parts.specs.TurnLaws.{between_start, next_is, between_next}
use Rattle.reader.specs.FindLaws.{sets_remain, sets_left, no_set, set_found}
use Rattle.reader.proofs.find_set.Goals as goal

pub loop-init : goal.loop-init
loop-init c = record { between = between_start _ _ refl; left = sets_remain _ }

pub next_set-requires : goal.next_set-requires
next_set-requires c = (c.loop.invariant.between.within, c.loop.invariant.between.lines)

pub returns-in_err-e : goal.returns-in_err-e
returns-in_err-e c =
    let inv = c.loop.invariant in
    let b = next_is _ _ _ _ _ inv.between (sym c.in_err-e.was ∙ c.next_set.ensures) in
    c.from_residual.ensures ∙ no_set c.args.file.now c.loop.counter _ _ inv.left _ (omega (arith, c.loop-test.true)) b

pub loop-preserved : goal.loop-preserved
loop-preserved c =
    let inv = c.loop.invariant in
    let b = next_is _ _ _ _ _ inv.between (sym c.in_ok-e.was ∙ c.next_set.ensures) in
    record { between = between_next _ _ _ _ b _ refl; left = sets_left c.args.file.now c.loop.counter _ _ inv.left _ b }

pub next_set-requires-2 : goal.next_set-requires-2
next_set-requires-2 c = (c.loop.invariant.between.within, c.loop.invariant.between.lines)

pub returns : goal.returns
returns c =
    let inv = c.loop.invariant in
    let b = next_is _ _ _ _ _ inv.between c.next_set-2.ensures in
    set_found c.args.file.now c.loop.counter _ _ inv.left _ (omega arith) (omega (arith, c.loop-test.false)) _ b
