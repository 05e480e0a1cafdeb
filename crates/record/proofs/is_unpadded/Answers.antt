-- `record::is_unpadded` meets its contract.
use mathlib.Core.Path.{◌∙◌}
use Rattle.record.specs.TakenLaws.{remainder_ordered, remainder_inside, unpadded}
use native.Mathlib.Omega.{arith}
use Rattle.record.proofs.is_unpadded.Goals as goal

pub slice_bounds-is_blank-count : goal.slice_bounds-is_blank-count
slice_bounds-is_blank-count c =
    let args = c.args in
    omega (arith, remainder_ordered args.case args.fields, c.field_start-at.ensures, c.field_start-past.ensures)

pub slice_bounds-is_blank-start : goal.slice_bounds-is_blank-start
slice_bounds-is_blank-start c =
    let args = c.args in
    omega (arith, remainder_ordered args.case args.fields, c.field_start-at.ensures, c.field_start-past.ensures)

pub slice_bounds-is_blank-end : goal.slice_bounds-is_blank-end
slice_bounds-is_blank-end c =
    let args = c.args in
    omega (arith, remainder_inside args.case args.fields, c.field_start-past.ensures)

pub returns : goal.returns
returns c = c.is_blank.ensures ∙ unpadded _ _ _ _ _ c.field_start-at.ensures c.field_start-past.ensures
