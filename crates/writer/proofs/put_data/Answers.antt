use borrow.Author.Rules.{rules}
use mir.Syntax.{w16, w64}
use mir.ValLaws.{to_z-of_z}
use Rattle.writer.specs.WriterLaws.{stored_room, stored_next, data_end}
use Rattle.output.specs.OutputLaws.{put_start, put_done}
use Rattle.writer.proofs.put_data.Goals as goal

pub loop-j-init : goal.loop-j-init
loop-j-init c = put_start _ _ _

pub put_stored-past-requires : goal.put_stored-past-requires
put_stored-past-requires c =
    let args = c.args in
    let below = c.loop-j-test.true in
    let coefficient = to_z-of_z w64 _ (record { sfits = search rules }) in
    let scale = to_z-of_z w16 _ (record { sfits = search rules }) in
    let room = stored_room _ c.loop-j.j args.coefficients.now args.scales.now below c.requires.0 _ _ coefficient scale in
    (below, room _ _ _ _ c.loop-j.invariant c.requires.1)

pub loop-j-preserved : goal.loop-j-preserved
loop-j-preserved c =
    let args = c.args in
    let below = c.loop-j-test.true in
    let coefficient = to_z-of_z w64 _ (record { sfits = search rules }) in
    let scale = to_z-of_z w16 _ (record { sfits = search rules }) in
    let next = stored_next _ c.loop-j.j args.coefficients.now args.scales.now below c.requires.0 _ _ coefficient scale in
    let stored = c.put_stored-past.ensures in
    next _ _ _ _ c.loop-j.invariant c.requires.1 _ _ stored.0 stored.1

pub shape_of-out : goal.shape_of-out
shape_of-out c = c.loop-j.invariant.same

pub returns : goal.returns
returns c = put_done _ _ _ _ _ _ c.loop-j.invariant (data_end _ _ _ _ c.loop-j-test.false)
