-- `stream_c::place_in` meets its contract.
use Rattle.std.proofs.Common.{refl, get_or, ne_eqb}
use native.Mathlib.Omega.{arith}
use Rattle.stream_c.specs.Lent.{place_of}
use Rattle.stream_c.proofs.place_in.Goals as goal

pub returns-in-0 : goal.returns-in-0
unfolding place_of
returns-in-0 c = rw c.in-0.is refl

pub returns-in-1 : goal.returns-in-1
unfolding place_of
returns-in-1 c = rw c.in-1.is refl

pub returns-in-2 : goal.returns-in-2
unfolding place_of
returns-in-2 c = rw c.in-2.is refl

pub returns-in_default : goal.returns-in_default
unfolding place_of
returns-in_default c =
    let place = get_or c.args.numbers.now 0 0 in
    rw (ne_eqb place 0 (λ e. omega arith), ne_eqb place 1 (λ e. omega arith), ne_eqb place 2 (λ e. omega arith), c.due_in.ensures) refl
