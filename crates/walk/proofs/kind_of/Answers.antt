-- `walk::kind_of` meets its contract.
use mathlib.Core.Path.{refl}
use native.Mathlib.Omega.{arith}
use borrow.Author.Tests.{ne_eqb}
use Rattle.record_table.specs.TypedSets.{typed_sets, kind_of}
use Rattle.walk.proofs.kind_of.Goals as goal

pub returns-in-58 : goal.returns-in-58
unfolding kind_of typed_sets
returns-in-58 c = rw c.in-58.is refl

pub returns-in-82 : goal.returns-in-82
unfolding kind_of typed_sets
returns-in-82 c = rw c.in-82.is refl

pub returns-in-151 : goal.returns-in-151
unfolding kind_of typed_sets
returns-in-151 c = rw c.in-151.is refl

pub returns-in-164 : goal.returns-in-164
unfolding kind_of typed_sets
returns-in-164 c = rw c.in-164.is refl

pub returns-in-1815 : goal.returns-in-1815
unfolding kind_of typed_sets
returns-in-1815 c = rw c.in-1815.is refl

pub returns-in_default : goal.returns-in_default
unfolding kind_of typed_sets
returns-in_default c =
    let number = c.args.number in
    simp (
      ne_eqb number 1815 (λ e. omega arith),
      ne_eqb number 164 (λ e. omega arith),
      ne_eqb number 151 (λ e. omega arith),
      ne_eqb number 82 (λ e. omega arith),
      ne_eqb number 58 (λ e. omega arith),
    )
