-- `format::number` meets its contract.
use Rattle.std.proofs.Common.{ap, sym, ◌∙◌, arith, length-take-le}
use Rattle.std.proofs.lemmas.List.{take_rest}
use Rattle.format.specs.Reading.{digits_before}
use Rattle.format.specs.NumberLaws.{digits_before_most}
use Rattle.format.proofs.MeasuredLaws.{figure_past, figure_none, figure_zero, figure_some}
use Rattle.format.proofs.number.Goals as goal

pub returns-in_err-rest : goal.returns-in_err-rest
returns-in_err-rest c =
    c.from_residual.ensures ∙ figure_past _ _ (λ h. let no = c.in_err-rest.ensures.lookup.1 (h, omega arith) in cc)

pub returns-then-digits-eq0 : goal.returns-then-digits-eq0
returns-then-digits-eq0 c =
    let rest = c.in_ok-rest.ensures.lookup.0.2 ∙ take_rest c.args.s.now c.args.at in
    figure_none _ _ _ (c.digits_first-digits.ensures ∙ ap digits_before rest) c.if-digits-eq0.true

pub returns-then-byte_at-digits : goal.returns-then-byte_at-digits
returns-then-byte_at-digits c =
    let rest = c.in_ok-rest.ensures.lookup.0.2 ∙ take_rest c.args.s.now c.args.at in
    figure_zero _ _ _ (c.digits_first-digits.ensures ∙ ap digits_before rest) c.if-digits-eq0.false (rw (c.byte_at.ensures, rest) at c.if-byte_at-digits.true)

pub slice_bounds-value-end : goal.slice_bounds-value-end
slice_bounds-value-end c = sym (length-take-le _ _ (omega (arith, c.digits_first-digits.ensures, digits_before_most c.in_ok-rest.rest.now)))

pub overflow_add-result : goal.overflow_add-result
overflow_add-result c = omega (arith, c.digits_first-digits.ensures, digits_before_most c.in_ok-rest.rest.now, c.in_ok-rest.ensures.lookup.0.3)

pub returns : goal.returns
returns c =
    let rest = c.in_ok-rest.ensures.lookup.0.2 ∙ take_rest c.args.s.now c.args.at in
    figure_some _ _ _ (c.digits_first-digits.ensures ∙ ap digits_before rest) c.if-digits-eq0.false _ (rw (c.byte_at.ensures, rest) at c.if-byte_at-digits.false) (rw rest at c.value.ensures)
