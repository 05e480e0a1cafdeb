-- `usual_values::usual_bits` meets its contract.
use mathlib.Core.Path.{refl, ◌∙◌}
use mathlib.Core.List.{List}
use Prim.Native.Nat.{ℕ, ◌+◌, ◌-◌, ◌≤◌}
use native.Mathlib.Omega.{arith}
use lib.ListN.{length}
use Rattle.text.specs.PartsLaws.{is_digit_low, is_digit_high}
use Rattle.usual_values.specs.NumberLaws.{at_magnitude, place_most, part_digits, part_length, last_small, coefficient_small, usual_read}
use Rattle.usual_values.proofs.usual_bits.Goals as goal

pub overflow_sub-whole : goal.overflow_sub-whole
overflow_sub-whole c = omega (arith, c.from-whole.ensures, is_digit_low _ c.requires.0.whole)

pub digits_number-c-requires : goal.digits_number-c-requires
digits_number-c-requires c =
    let s : List ℕ = c.args.s.now in
    let u = c.requires.0 in
    let n = part_length s u in
    let narrow = u.narrow in
    (omega (arith, c.from-whole.ensures, is_digit_high _ u.whole), (omega arith, part_digits s u))

pub overflow_sub-from : goal.overflow_sub-from
overflow_sub-from c = omega (arith, c.from.ensures, is_digit_low _ c.requires.0.last)

pub place_of-place-requires : goal.place_of-place-requires
place_of-place-requires c =
    let narrow = c.requires.0.narrow in
    omega (arith, c.from.ensures, last_small _ c.requires.0)

pub magnitude_at-requires : goal.magnitude_at-requires
magnitude_at-requires c =
    let s : List ℕ = c.args.s.now in
    let u = c.requires.0 in
    let narrow = u.narrow in
    let near : c.from.result - 48 + (length s - 8) ≤ 22 = omega (arith, c.from.ensures, last_small _ u) in
    (coefficient_small s u _ _ c.digits_number-c.ensures, (rw c.place_of-place.ensures (place_most _ _ _ near), c.requires.1))

pub signed_bits-requires : goal.signed_bits-requires
signed_bits-requires c =
    let s : List ℕ = c.args.s.now in
    let u = c.requires.0 in
    let narrow = u.narrow in
    let near : c.from.result - 48 + (length s - 8) ≤ 22 = omega (arith, c.from.ensures, last_small _ u) in
    rw c.magnitude_at.ensures
    (at_magnitude _ _ (coefficient_small s u _ _ c.digits_number-c.ensures) (rw c.place_of-place.ensures (place_most _ _ _ near)))

pub returns : goal.returns
returns c =
    let s : List ℕ = c.args.s.now in
    let spelled = rw c.from-whole.ensures at c.digits_number-c.ensures in
    record {
      value = _;
      read_is = usual_read s c.requires.0 _ spelled;
      pattern_is = c.signed_bits.ensures ∙ rw (c.magnitude_at.ensures, c.place_of-place.ensures, c.from.ensures) refl;
    }
