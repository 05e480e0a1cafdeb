use mathlib.Core.Path.{◌≡◌, refl, sym, ◌∙◌}
use Prim.Native.Nat.{◌<◌, ◌-◌, ◌+◌}
use Rattle.parts.specs.PartsLaws.{lines_end}
use Rattle.parts.specs.SetLaws.{skip_stops, skip_none, skip_next, skip_done}
use borrow.Author.Rules.{rules}
use native.Mathlib.Omega.{arith}
use Rattle.parts.proofs.line_start.Goals as goal

pub loop-init : goal.loop-init
loop-init c =
    let z : c.args.k - 0 ≡ c.args.k = omega arith in
    record { within = search rules; same = rw z refl }

pub returns-then-closing-at : goal.returns-then-closing-at
returns-then-closing-at c = (sym (skip_stops _ _ _ _ c.if-closing-at.true) ∙ c.loop.invariant.same, c.loop.invariant.within)

pub returns-then-file-end : goal.returns-then-file-end
returns-then-file-end c =
    let inv = c.loop.invariant in
    let none = lines_end c.args.file.now _ _ inv.within c.find_end-end.ensures c.if-file-end.true in
    (sym (skip_none _ _ _ _ none) ∙ inv.same, inv.within)

pub loop-preserved : goal.loop-preserved
loop-preserved c =
    let z : c.args.k - (c.loop.counter + 1) ≡ c.args.k - c.loop.counter - 1 = omega arith in
    let inv = c.loop.invariant in
    let more : 0 < c.args.k - c.loop.counter = omega (arith, c.loop-test.true) in
    let next = skip_next c.args.file.now _ _ _ _ more c.if-closing-at.false inv.within c.find_end-end.ensures c.if-file-end.false in
    record { within = search rules; same = rw z (sym next ∙ inv.same) }

pub returns : goal.returns
returns c = (sym (skip_done _ _ _ _ (omega (arith, c.loop-test.false))) ∙ c.loop.invariant.same, c.loop.invariant.within)
