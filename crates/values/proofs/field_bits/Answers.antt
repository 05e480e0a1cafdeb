-- `values::field_bits` meets its contract.
use mathlib.Core.Path.{◌≡◌}
use mathlib.Core.Logic.{⊎_elim}
use Prim.Native.Nat.{◌+◌, ◌-◌}
use native.Mathlib.Omega.{arith}
use Rattle.values.proofs.field_bits.Goals as goal

pub usual_bits-requires : goal.usual_bits-requires
usual_bits-requires c =
    let args = c.args in
    let w : args.at + 13 - args.at ≡ args.width = omega arith in
    (rw w c.requires.width_in_bounds.1.0, c.requires.width_in_bounds.1.1)

pub returns-then-width-eq13 : goal.returns-then-width-eq13
returns-then-width-eq13 c =
    let args = c.args in
    let w : args.at + 13 - args.at ≡ args.width = omega arith in
    rw w at c.usual_bits.ensures

pub slice_bounds-usual_bits-end-2 : goal.slice_bounds-usual_bits-end-2
slice_bounds-usual_bits-end-2 c =
    let w : c.args.width ≡ 20 = ⊎_elim (λ e. absurd (c.if-width-eq13.false e)) (λ e. e) c.requires.fact in
    omega (arith, c.requires.width_in_bounds.0)

pub usual_bits-requires-2 : goal.usual_bits-requires-2
usual_bits-requires-2 c =
    let args = c.args in
    let e : args.width ≡ 20 = ⊎_elim (λ e. absurd (c.if-width-eq13.false e)) (λ e. e) c.requires.fact in
    let w : args.at + 20 - args.at ≡ args.width = omega arith in
    (rw w c.requires.width_in_bounds.1.0, c.requires.width_in_bounds.1.1)

pub returns : goal.returns
returns c =
    let args = c.args in
    let e : args.width ≡ 20 = ⊎_elim (λ e. absurd (c.if-width-eq13.false e)) (λ e. e) c.requires.fact in
    let w : args.at + 20 - args.at ≡ args.width = omega arith in
    rw w at c.usual_bits-2.ensures
