-- `values::values` meets its contract.
use mathlib.Core.Path.{refl, sym, ◌∙◌}
use Prim.Native.Nat.{◌*◌, ◌≤◌}
use native.Mathlib.Omega.{arith}
use Rattle.reader.specs.ReaderLaws.{start_most, data_inside}
use Rattle.values.specs.AcceptedLaws.{accepted_real, accepted_some}
use Rattle.values.specs.LinesLaws.{told_is, told_zero}
use Rattle.values.specs.ValuesLaws.{refused_first, none_there, one_refused, too_few, all_filled}
use borrow.Author.Rules.{rules}
use Rattle.values.proofs.values.Goals as goal

pub returns-then-judged-gt0 : goal.returns-then-judged-gt0
returns-then-judged-gt0 c = refused_first c.args.file.now c.args.set c.args.out.now _ c.judge-judged.ensures c.if-judged-gt0.true

pub returns-in_default : goal.returns-in_default
returns-in_default c =
    let args = c.args in
    let none = none_there args.file.now args.set args.out.now _ c.judge-judged.ensures c.if-judged-gt0.false in
    rw c.bare_reply.ensures (none (sym c.in_default.is ∙ c.find_data.ensures))

pub overflow_mul-stored : goal.overflow_mul-stored
overflow_mul-stored c =
    let inside = data_inside c.args.file.now _ _ (sym c.in-Some.is ∙ c.find_data.ensures) in
    let few : c.in-Some.d.count * c.numbers_of.result ≤ c.in-Some.d.count * 3 = start_most _ _ _ inside.1 c.numbers_of.ensures in search rules

pub plan_for-p-requires : goal.plan_for-p-requires
plan_for-p-requires c = data_inside c.args.file.now _ _ (sym c.in-Some.is ∙ c.find_data.ensures)

pub look_all-requires : goal.look_all-requires
look_all-requires c =
    let plan = c.plan_for-p.ensures in
    let real = accepted_real c.args.file.now _ c.judge-judged.ensures c.if-judged-gt0.false _ _ (sym c.in-Some.is ∙ c.find_data.ensures) _ _ refl c.numbers_of.ensures in
    (plan.1.0, (rw plan.0.0 plan.1.1, rw (plan.0.0, plan.0.1) real))

pub returns-in-Err : goal.returns-in-Err
returns-in-Err c =
    let args = c.args in
    let there = sym c.in-Some.is ∙ c.find_data.ensures in
    let some = accepted_some args.file.now _ c.judge-judged.ensures c.if-judged-gt0.false args.set _ there in
    let plan = c.plan_for-p.ensures in
    let told = told_is (rw (c.in-Err.is, plan.0.0, plan.0.1) at c.look_all.ensures) in
    let refused = one_refused args.file.now args.set args.out.now _ c.judge-judged.ensures c.if-judged-gt0.false _ there some in
    rw c.bare_reply-in-Err.ensures (refused _ _ _ refl c.numbers_of.ensures told.0 told.1)

pub returns-then-out-stored : goal.returns-then-out-stored
returns-then-out-stored c =
    let args = c.args in
    let there = sym c.in-Some.is ∙ c.find_data.ensures in
    let some = accepted_some args.file.now _ c.judge-judged.ensures c.if-judged-gt0.false args.set _ there in
    let plan = c.plan_for-p.ensures in
    let none = told_zero (rw (plan.0.0, plan.0.1) at c.in_default-look_all.ensures) in
    let few = too_few args.file.now args.set args.out.now _ c.judge-judged.ensures c.if-judged-gt0.false _ there some in
    rw c.bare_reply-then-out-stored.ensures (few _ _ _ refl c.numbers_of.ensures (sym none) (omega arith) (omega arith))

pub put_all-requires : goal.put_all-requires
put_all-requires c =
    let plan = c.plan_for-p.ensures in
    let real = accepted_real c.args.file.now _ c.judge-judged.ensures c.if-judged-gt0.false _ _ (sym c.in-Some.is ∙ c.find_data.ensures) _ _ refl c.numbers_of.ensures in
    record { ready = (plan.1.0, (rw plan.0.0 plan.1.1, rw (plan.0.0, plan.0.1) real)); room = omega (arith, plan.0.1) }

pub returns : goal.returns
returns c =
    let args = c.args in
    let there = sym c.in-Some.is ∙ c.find_data.ensures in
    let some = accepted_some args.file.now _ c.judge-judged.ensures c.if-judged-gt0.false args.set _ there in
    let plan = c.plan_for-p.ensures in
    let none = told_zero (rw (plan.0.0, plan.0.1) at c.in_default-look_all.ensures) in
    let filled = all_filled args.file.now args.set args.out.now _ c.judge-judged.ensures c.if-judged-gt0.false _ there some in
    rw c.bare_reply-2.ensures (filled _ _ _ refl c.numbers_of.ensures (sym none) (omega arith) (omega arith) _ (rw (plan.0.0, plan.0.1) at c.put_all.ensures))
