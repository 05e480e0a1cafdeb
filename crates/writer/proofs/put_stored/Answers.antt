-- `writer::put_stored` meets its contract.
use native.Mathlib.Omega.{arith}
use mir.Syntax.{w16, w64}
use mir.ValLaws.{to_z-of_z}
use Rattle.writer.specs.WriterLaws.{field_room, end_room, stored_ends, stored_goes}
use Rattle.writer.proofs.put_stored.Goals as goal

pub overflow_add-past : goal.overflow_add-past
overflow_add-past c = omega (arith, field_room c.args.out.now c.args.at _ _ _ _ c.args.coefficient c.args.scale c.requires.1 c.width_at-width.ensures)

pub slice_bounds-put_number-end : goal.slice_bounds-put_number-end
slice_bounds-put_number-end c = omega (arith, field_room c.args.out.now c.args.at _ _ _ _ c.args.coefficient c.args.scale c.requires.1 c.width_at-width.ensures)

pub bounds-out-past : goal.bounds-out-past
bounds-out-past c =
    let args = c.args in
    let room = end_room args.out.now args.at _ _ _ _ args.coefficient args.scale c.requires.1 c.width_at-width.ensures _ c.ends_line.ensures c.if-ends_line.true in
    omega (arith, c.out-1.given.1, room)

pub overflow_add-result : goal.overflow_add-result
overflow_add-result c =
    let args = c.args in
    let room = end_room args.out.now args.at _ _ _ _ args.coefficient args.scale c.requires.1 c.width_at-width.ensures _ c.ends_line.ensures c.if-ends_line.true in
    omega (arith, room)

pub returns-then-ends_line : goal.returns-then-ends_line
returns-then-ends_line c =
    let args = c.args in
    let coefficient = to_z-of_z w64 _ c.ranges.coefficient in
    let scale = to_z-of_z w16 _ c.ranges.scale in
    let number = c.put_number in
    let ends = stored_ends args.out.now args.at _ _ _ _ args.coefficient args.scale c.requires.1 c.width_at-width.ensures _ c.ends_line.ensures in
    ends number.new.out _ _ _ c.decimals_of.ensures coefficient scale number.ensures c.if-ends_line.true

pub returns : goal.returns
returns c =
    let args = c.args in
    let coefficient = to_z-of_z w64 _ c.ranges.coefficient in
    let scale = to_z-of_z w16 _ c.ranges.scale in
    let number = c.put_number in
    let goes = stored_goes args.out.now args.at _ _ _ _ args.coefficient args.scale c.requires.1 c.width_at-width.ensures _ c.ends_line.ensures in
    goes number.new.out _ _ _ c.decimals_of.ensures coefficient scale number.ensures c.if-ends_line.false
