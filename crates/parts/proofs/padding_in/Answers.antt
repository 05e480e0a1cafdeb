-- `parts::padding_in` meets its contract.
use Rattle.parts.specs.CountedLaws.{last_inside, last_few, remainder_order, remainder_within, padding_by}
use native.Mathlib.Omega.{arith}
use borrow.Author.Rules.{rules}
use Rattle.parts.proofs.padding_in.Goals as goal

pub overflow_add-counted : goal.overflow_add-counted
overflow_add-counted c = omega (arith, c.last_field-counted.ensures, last_few c.args.case c.args.stored c.requires.0)

pub slice_bounds-is_blank-count : goal.slice_bounds-is_blank-count
slice_bounds-is_blank-count c =
    let fields = c.fields_of-fields.ensures in
    remainder_order _ _ _ _ _ _ fields c.last_field-counted.ensures c.field_start-from.ensures c.field_start-past.ensures

pub slice_bounds-is_blank-start : goal.slice_bounds-is_blank-start
slice_bounds-is_blank-start c =
    let fields = c.fields_of-fields.ensures in
    remainder_order _ _ _ _ _ _ fields c.last_field-counted.ensures c.field_start-from.ensures c.field_start-past.ensures

pub slice_bounds-is_blank-end : goal.slice_bounds-is_blank-end
slice_bounds-is_blank-end c =
    let fields = c.fields_of-fields.ensures in
    let within = remainder_within _ _ _ _ _ _ fields c.last_field-counted.ensures c.field_start-from.ensures c.field_start-past.ensures in
    search rules

pub returns-then-is_blank : goal.returns-then-is_blank
returns-then-is_blank c =
    let fields = c.fields_of-fields.ensures in
    let from = c.field_start-from.ensures in
    let past = c.field_start-past.ensures in
    rw c.if-is_blank.true at (padding_by _ _ _ _ _ _ fields c.last_field-counted.ensures from past _ _ c.is_blank.ensures)

pub overflow_sub-result : goal.overflow_sub-result
overflow_sub-result c =
    let inside = last_inside c.args.case c.args.stored c.requires.0 in
    omega (arith, c.last_field-counted.ensures, c.fields_of-fields.ensures, inside)

pub returns : goal.returns
returns c =
    let fields = c.fields_of-fields.ensures in
    let from = c.field_start-from.ensures in
    let past = c.field_start-past.ensures in
    rw c.if-is_blank.false at (padding_by _ _ _ _ _ _ fields c.last_field-counted.ensures from past _ _ c.is_blank.ensures)
