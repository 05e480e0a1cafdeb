-- `reader::span_of` meets its contract.
use Prim.Native.Nat.{◌+◌, ◌≤◌, ◌/◌, ◌%◌}
use native.Mathlib.Nat.{div-le_self}
use lib.ListN.{get_or}
use Rattle.layout.specs.Layout.{layout_of}
use Rattle.layout.specs.LayoutLaws.{fields_of_some, field_inside}
use Rattle.reader.specs.SpanLaws.{span_by}
use borrow.Author.Rules.{rules}
use Rattle.reader.proofs.span_of.Goals as goal

pub overflow_add-j : goal.overflow_add-j
overflow_add-j c = let h : c.args.j / c.fields_of-n.result ≤ c.args.j = div-le_self _ _ in search rules

pub nonzero_div-j : goal.nonzero_div-j
nonzero_div-j c = rw c.fields_of-n.ensures (fields_of_some c.args.d.case (search rules))

pub nonzero_rem-field : goal.nonzero_rem-field
nonzero_rem-field c = rw c.fields_of-n.ensures (fields_of_some c.args.d.case (search rules))

pub overflow_add-first : goal.overflow_add-first
overflow_add-first c =
    let fields = c.fields_of-n.result in
    let width = get_or (layout_of c.args.d.case).widths (c.args.j % fields) 0 in
    let h : c.field_start.result + width ≤ 80 = rw c.field_start.ensures (field_inside _ _) in search rules

pub overflow_add-result : goal.overflow_add-result
overflow_add-result c = let h : c.field_start.result + c.field_width.result ≤ 80 = rw (c.field_start.ensures, c.field_width.ensures) (field_inside _ _) in search rules

pub returns : goal.returns
returns c = span_by _ _ _ _ _ _ _ c.fields_of-n.ensures c.line_start-line.ensures.0 c.field_start.ensures c.field_width.ensures
