-- `values::next_turn` meets its contract.
use Rattle.std.proofs.Common.{refl, arith, lt-ltb, le-ltb}
use Rattle.values.specs.Spot.{next_spot}
use Rattle.values.specs.SpotLaws.{here, spot_next}
use Rattle.values.proofs.next_turn.Goals as goal

pub overflow_add-field : goal.overflow_add-field
overflow_add-field c =
    let r = c.requires.0 in
    omega (arith, (here c.args.file.now c.args.p.now.set r.body r.eight _ _ c.requires.1.0 _ r.widths_are).0)

pub bounds-p-s : goal.bounds-p-s
bounds-p-s c =
    let r = c.requires.0 in
    (here c.args.file.now c.args.p.now.set r.body r.eight _ _ c.requires.1.0 _ r.widths_are).0

pub overflow_add-first : goal.overflow_add-first
overflow_add-first c =
    let r = c.requires.0 in
    omega (arith, c.from.ensures, (here c.args.file.now c.args.p.now.set r.body r.eight _ _ c.requires.1.0 _ r.widths_are).1)

pub returns-then-field-p : goal.returns-then-field-p
unfolding next_spot
returns-then-field-p c =
    let r = c.requires.0 in
    let at = c.requires.1.0 in (
      refl,
      spot_next c.args.file.now c.args.p.now.set r.body r.eight _ _ at _ r.widths_are _ _ r.fields_are
          (rw (lt-ltb _ _ c.if-field-p.true, c.from.ensures) refl, at.inside),
    )

pub returns : goal.returns
unfolding next_spot
returns c =
    let r = c.requires.0 in
    let at = c.requires.1.0 in
    let turn = c.at_line.ensures in
    let line = c.line_start-line.ensures in (
      turn.0,
      rw (turn.0, turn.1)
          (spot_next c.args.file.now c.args.p.now.set r.body r.eight _ _ at _ r.widths_are _ _ r.fields_are
          (rw (le-ltb _ _ c.if-field-p.false, line.0) refl, line.1)),
    )
