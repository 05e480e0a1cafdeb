use mathlib.Core.Path.{refl, ap, ◌∙◌}
use Rattle.std.proofs.Common.{◌≤◌, length, length-append}
use Rattle.std.proofs.lemmas.Slice.Zip.{zip_turn, zip_end}
use Rattle.reader.specs.Reader.{refused_by}
use Rattle.format_reader.specs.QuestionLaws.{finding_fits, finding_stop, finding_here, finding_on, finding_end}
use borrow.Author.Rules.{rules}
use native.Mathlib.Omega.{arith}
use Rattle.format_reader.proofs.show_field.Goals as goal

pub loop-form-init : goal.loop-form-init
loop-form-init c = record { within = search rules; fit = search rules; same = refl }

pub returns-then-width-eq0 : goal.returns-then-width-eq0
returns-then-width-eq0 c =
    let turn = zip_turn c.args.forms.now c.args.widths.now _ _ _ c.next.new.self _ (search rules) (search rules) c.loop-form.yielded_by _ c.in-Some.is c.next.ensures.steps in
    let width = c.from-width.ensures ∙ turn.3 0 in
    ap refused_by c.no_field.ensures ∙ finding_stop c.loop-form.invariant turn.1 c.requires.0 width c.if-width-eq0.true

pub overflow_add-at : goal.overflow_add-at
overflow_add-at c =
    let turn = zip_turn c.args.forms.now c.args.widths.now _ _ _ c.next.new.self _ (search rules) (search rules) c.loop-form.yielded_by _ c.in-Some.is c.next.ensures.steps in
    let width = c.from-width.ensures ∙ turn.3 0 in
    omega (arith, finding_fits c.loop-form.invariant turn.1 c.requires.0 width)

pub show-requires : goal.show-requires
show-requires c =
    let turn = zip_turn c.args.forms.now c.args.widths.now _ _ _ c.next.new.self _ (search rules) (search rules) c.loop-form.yielded_by _ c.in-Some.is c.next.ensures.steps in
    let width = c.from-width.ensures ∙ turn.3 0 in
    (omega arith, finding_fits c.loop-form.invariant turn.1 c.requires.0 width)

pub returns-then-left-own : goal.returns-then-left-own
returns-then-left-own c =
    let turn = zip_turn c.args.forms.now c.args.widths.now _ _ _ c.next.new.self _ (search rules) (search rules) c.loop-form.yielded_by _ c.in-Some.is c.next.ensures.steps in
    let width = c.from-width.ensures ∙ turn.3 0 in
    let own = rw (turn.2 0) at c.count_of-own.ensures in
    c.show.ensures ∙ rw (turn.2 0) (finding_here c.loop-form.invariant turn.1 c.requires.0 width c.if-width-eq0.false _ own c.if-left-own.true)

pub overflow_add-at-in-loop-form : goal.overflow_add-at-in-loop-form
overflow_add-at-in-loop-form c =
    let turn = zip_turn c.args.forms.now c.args.widths.now _ _ _ c.next.new.self _ (search rules) (search rules) c.loop-form.yielded_by _ c.in-Some.is c.next.ensures.steps in
    let width = c.from-width.ensures ∙ turn.3 0 in
    omega (arith, finding_fits c.loop-form.invariant turn.1 c.requires.0 width)

pub loop-form-preserved : goal.loop-form-preserved
loop-form-preserved c =
    let turn = zip_turn c.args.forms.now c.args.widths.now _ _ _ c.next.new.self _ (search rules) (search rules) c.loop-form.yielded_by _ c.in-Some.is c.next.ensures.steps in
    let width = c.from-width.ensures ∙ turn.3 0 in
    let own = rw (turn.2 0) at c.count_of-own.ensures in
    rw (length-append c.loop-form.yielded _) (finding_on c.loop-form.invariant turn.1 c.requires.0 width c.if-width-eq0.false _ own c.if-left-own.false)

pub returns : goal.returns
returns c =
    let end = zip_end c.args.forms.now c.args.widths.now _ _ _ c.next.new.self _ (search rules) (search rules) c.loop-form.yielded_by c.in-None.is c.next.ensures.steps in
    let past : length c.args.widths.now ≤ length c.loop-form.yielded = omega (arith, end, c.requires.0) in
    ap refused_by c.no_field-2.ensures ∙ finding_end c.loop-form.invariant past
