use mathlib.Core.Path.{◌≡◌}
use mathlib.Core.List.{List}
use Prim.Native.Nat.{ℕ, ◌+◌, ◌-◌, ◌*◌}
use native.Mathlib.Omega.{arith}
use lib.ListN.{length, get_or}
use lib.Seq.{take_all}
use Rattle.text.specs.Parts.{Digits}
use Rattle.text.specs.PartsLaws.{is_digit_low, is_digit_high}
use Rattle.real.specs.StepLaws.{digit_below, below_more}
use Rattle.real.proofs.PlainLaws.{digits_next}
use Rattle.usual_values.proofs.digits_number.Goals as goal

pub loop-b-init : goal.loop-b-init
loop-b-init c = record { few = omega arith; digits = Digits.none }

pub overflow_mul-c : goal.overflow_mul-c
overflow_mul-c c =
    let short = c.requires.1.0 in
    omega (arith, below_more _ _ 14 (omega arith) c.loop-b.invariant.few)

pub overflow_add-c : goal.overflow_add-c
overflow_add-c c =
    let short = c.requires.1.0 in
    omega (arith, c.from.ensures, below_more _ _ 14 (omega arith) c.loop-b.invariant.few)

pub overflow_sub-c : goal.overflow_sub-c
overflow_sub-c c = omega (arith, c.from.ensures, is_digit_low _ (c.requires.1.1.digit _ c.loop-b-test.true))

pub loop-b-preserved : goal.loop-b-preserved
loop-b-preserved c =
    let inv = c.loop-b.invariant in
    let t = c.requires.1.1.digit _ c.loop-b-test.true in
    let s : List ℕ = c.args.s.now in
    let b : ℕ = get_or s c.loop-b.b-index 0 in
    let m : ℕ = c.loop-b.c in
    let e : m * 10 + b - 48 ≡ m * 10 + (b - 48) = omega (arith, is_digit_low _ t) in
    rw c.from.ensures (rw e record {
      few = digit_below _ _ _ (is_digit_high _ t) inv.few;
      digits = digits_next _ _ c.loop-b-test.true t inv.digits;
    })

pub returns : goal.returns
returns c =
    let inv = c.loop-b.invariant in
    let n : c.loop-b.b-index ≡ length c.args.s.now = omega arith in
    record {
      few = record { first = c.requires.0; few = omega (arith, c.requires.1.0); digits = rw (take_all _ _ c.loop-b-test.false) at inv.digits };
      small = rw n at inv.few;
    }
