use mathlib.Core.Path.{◌≡◌, refl, ap, ◌∙◌}
use Prim.Native.Nat.{ℕ, ◌+◌, ◌*◌}
use native.Mathlib.Omega.{arith}
use lib.Ieee.{of_bits, of_int}
use Rattle.exact.specs.Exact.{ten_of}
use Rattle.exact.specs.ExactLaws.{ten_of_next}
use Rattle.exact.proofs.ten.Goals as goal

pub loop-init : goal.loop-init
unfolding ten_of of_bits of_int
loop-init c = refl

pub loop-preserved : goal.loop-preserved
loop-preserved c =
    let k : ℕ = c.loop.counter in
    let two : k * 2 + 1 + 1 ≡ (k + 1) * 2 = omega arith in
    ten_of_next (k * 2 + 1) (omega (arith, c.requires)) (ten_of_next (k * 2) (omega (arith, c.requires)) c.loop.invariant) ∙ ap ten_of two

pub returns-then-scale-eq1 : goal.returns-then-scale-eq1
returns-then-scale-eq1 c =
    let k : ℕ = c.loop.counter in
    let last : k * 2 + 1 ≡ c.args.scale = omega (arith, c.loop.auto, c.loop-test.false, c.if-scale-eq1.true) in
    ten_of_next (k * 2) (omega (arith, c.requires)) c.loop.invariant ∙ ap ten_of last

pub returns : goal.returns
returns c =
    let all : c.loop.counter * 2 ≡ c.args.scale = omega (arith, c.loop.auto, c.loop-test.false, c.if-scale-eq1.false) in
    c.loop.invariant ∙ ap ten_of all
