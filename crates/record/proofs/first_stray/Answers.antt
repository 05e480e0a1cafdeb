use Rattle.std.proofs.Common.{◌≤◌, refl, sym, ◌∙◌, ap, arith, rules, length, length-append}
use Rattle.std.proofs.lemmas.Slice.Zip.{zip_turn, zip_end}
use Rattle.laws.specs.Choice.{above_zero}
use Rattle.laws.specs.ChoiceLaws.{above_zero_none, above_zero_some}
use Rattle.record.specs.GoingLaws.{going_fits, going_on}
use Rattle.record.specs.CheckLaws.{stray_stop, stray_here, stray_on, stray_end}
use Rattle.record.proofs.first_stray.Goals as goal

pub loop-form-init : goal.loop-form-init
loop-form-init c = record { within = search rules; fit = search rules; same = refl }

pub returns-then-width-eq0 : goal.returns-then-width-eq0
returns-then-width-eq0 c =
    let turn = zip_turn c.args.forms.now c.args.widths.now _ _ _ c.next.new.self _ (search rules) (search rules) c.loop-form.yielded_by _ c.in-Some.is c.next.ensures.steps in
    let stop = stray_stop _ _ _ _ _ _ turn.1 c.requires.0 (c.from-width.ensures ∙ turn.3 0) c.if-width-eq0.true in
    c.first_byte.ensures ∙ ap above_zero (sym (sym c.loop-form.invariant.same ∙ stop))

pub overflow_add-at : goal.overflow_add-at
overflow_add-at c =
    let turn = zip_turn c.args.forms.now c.args.widths.now _ _ _ c.next.new.self _ (search rules) (search rules) c.loop-form.yielded_by _ c.in-Some.is c.next.ensures.steps in
    omega (arith, going_fits c.loop-form.invariant turn.1 (c.from-width.ensures ∙ turn.3 0))

pub stray_at-requires : goal.stray_at-requires
stray_at-requires c =
    let turn = zip_turn c.args.forms.now c.args.widths.now _ _ _ c.next.new.self _ (search rules) (search rules) c.loop-form.yielded_by _ c.in-Some.is c.next.ensures.steps in
    going_fits c.loop-form.invariant turn.1 (c.from-width.ensures ∙ turn.3 0)

pub returns-in-Some-stray_at : goal.returns-in-Some-stray_at
returns-in-Some-stray_at c =
    let turn = zip_turn c.args.forms.now c.args.widths.now _ _ _ c.next.new.self _ (search rules) (search rules) c.loop-form.yielded_by _ c.in-Some.is c.next.ensures.steps in
    let wide = c.if-width-eq0.false in
    let found = rw (turn.2 0) at (above_zero_some _ _ (sym c.in-Some-stray_at.is ∙ c.stray_at.ensures)) in
    let here = stray_here _ _ _ _ _ _ turn.1 c.requires.0 (c.from-width.ensures ∙ turn.3 0) wide _ refl (omega (arith, found.0, found.1)) in
    sym c.in-Some-stray_at.is ∙ c.stray_at.ensures ∙ ap above_zero (rw (turn.2 0) (sym (sym c.loop-form.invariant.same ∙ here)))

pub loop-form-preserved : goal.loop-form-preserved
loop-form-preserved c =
    let turn = zip_turn c.args.forms.now c.args.widths.now _ _ _ c.next.new.self _ (search rules) (search rules) c.loop-form.yielded_by _ c.in-Some.is c.next.ensures.steps in
    let wide = c.if-width-eq0.false in
    let clear = rw (turn.2 0) at (above_zero_none _ (sym c.in_default.is ∙ c.stray_at.ensures)) in
    let passed = stray_on _ _ _ _ _ _ turn.1 c.requires.0 (c.from-width.ensures ∙ turn.3 0) wide _ refl (omega (arith, clear)) in
    rw (length-append c.loop-form.yielded _) (going_on c.loop-form.invariant turn.1 (c.from-width.ensures ∙ turn.3 0) passed)

pub returns : goal.returns
returns c =
    let end = zip_end c.args.forms.now c.args.widths.now _ _ _ c.next.new.self _ (search rules) (search rules) c.loop-form.yielded_by c.in-None.is c.next.ensures.steps in
    let past : length c.args.widths.now ≤ length c.loop-form.yielded = omega (arith, end, c.requires.0) in
    c.first_byte-2.ensures ∙ ap above_zero (sym (sym c.loop-form.invariant.same ∙ stray_end _ _ _ _ _ past))
