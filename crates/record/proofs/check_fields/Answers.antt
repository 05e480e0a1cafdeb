use Rattle.std.proofs.Common.{◌≡◌, ◌+◌, ◌<◌, ◌≤◌, ℕ, Ok, Err, refl, sym, ◌∙◌, arith, rules, length, length-append}
use Rattle.std.proofs.lemmas.Result.{err_from_is_err_and}
use Rattle.std.proofs.lemmas.Slice.Zip.{zip_turn, zip_end}
use Rattle.line.specs.LineLaws.{ok_passed, err_refused}
use Rattle.field.specs.FieldLaws.{answered_ok, answered_err}
use Rattle.record.specs.GoingLaws.{going_fits, going_on}
use Rattle.record.specs.OverlookedLaws.{fault_stop, fault_here, fault_on, fault_end}
use Rattle.record.proofs.check_fields.Goals as goal

pub loop-form-init : goal.loop-form-init
loop-form-init c = record { within = search rules; fit = search rules; same = refl }

pub returns-then-width-eq0 : goal.returns-then-width-eq0
returns-then-width-eq0 c =
    let turn = zip_turn c.args.forms.now c.args.widths.now _ _ _ c.next.new.self _ (search rules) (search rules) c.loop-form.yielded_by _ c.in-Some.is c.next.ensures.steps in
    ok_passed (sym c.loop-form.invariant.same ∙ fault_stop _ _ _ _ _ _ _ turn.1 c.requires.0 (c.from-width.ensures ∙ turn.3 0) c.if-width-eq0.true)

pub overflow_add-column : goal.overflow_add-column
overflow_add-column c = omega (arith, c.loop-form.invariant.fit)

pub overflow_add-at : goal.overflow_add-at
overflow_add-at c =
    let turn = zip_turn c.args.forms.now c.args.widths.now _ _ _ c.next.new.self _ (search rules) (search rules) c.loop-form.yielded_by _ c.in-Some.is c.next.ensures.steps in
    omega (arith, going_fits c.loop-form.invariant turn.1 (c.from-width.ensures ∙ turn.3 0))

pub number_but-asked-requires : goal.number_but-asked-requires
number_but-asked-requires c =
    let turn = zip_turn c.args.forms.now c.args.widths.now _ _ _ c.next.new.self _ (search rules) (search rules) c.loop-form.yielded_by _ c.in-Some.is c.next.ensures.steps in
    going_fits c.loop-form.invariant turn.1 (c.from-width.ensures ∙ turn.3 0)

pub returns : goal.returns
returns c =
    let end = zip_end c.args.forms.now c.args.widths.now _ _ _ c.next.new.self _ (search rules) (search rules) c.loop-form.yielded_by c.in-None.is c.next.ensures.steps in
    let past : length c.args.widths.now ≤ length c.loop-form.yielded = omega (arith, end, c.requires.0) in
    ok_passed (sym c.loop-form.invariant.same ∙ fault_end _ _ _ _ _ _ past)

pub returns-in_err-map_err : goal.returns-in_err-map_err
returns-in_err-map_err c =
    let turn = zip_turn c.args.forms.now c.args.widths.now _ _ _ c.next.new.self _ (search rules) (search rules) c.loop-form.yielded_by _ c.in-Some.is c.next.ensures.steps in
    let p = err_from_is_err_and c.from_residual.result c.from_residual.ensures.1 in
    let told : (n : ℕ) × (c.number_but-asked.result ≡ Err n) × (c.in_err-map_err.field-0.0 ≡ record { number = n; column = c.loop-form.at + 1 }) = search rules in
    let width = c.from-width.ensures ∙ turn.3 0 in
    let wide = c.if-width-eq0.false in
    let found = answered_err _ told.0 (sym told.1 ∙ c.number_but-asked.ensures) in
    let some : 0 < told.0 = omega (arith, found.0, found.1) in
    let here = fault_here _ _ _ _ _ _ _ turn.1 c.requires.0 width wide told.0 (rw (turn.2 0) at found.0) some in
    rw (p.1, p.2, told.2) (err_refused (sym c.loop-form.invariant.same ∙ here) some)

pub loop-form-preserved : goal.loop-form-preserved
loop-form-preserved c =
    let turn = zip_turn c.args.forms.now c.args.widths.now _ _ _ c.next.new.self _ (search rules) (search rules) c.loop-form.yielded_by _ c.in-Some.is c.next.ensures.steps in
    let width = c.from-width.ensures ∙ turn.3 0 in
    let wide = c.if-width-eq0.false in
    let told : c.number_but-asked.result ≡ Ok tt = search rules in
    let number = rw (turn.2 0) at (answered_ok _ (sym told ∙ c.number_but-asked.ensures)) in
    let passed = fault_on _ _ _ _ _ _ _ turn.1 c.requires.0 width wide _ refl (omega (arith, number)) in
    rw (length-append c.loop-form.yielded _) (going_on c.loop-form.invariant turn.1 width passed)
