-- `values::columns_of` meets its contract.
use Rattle.std.proofs.Common.{ℕ, ◌+◌, ap, ◌∙◌, arith}
use Rattle.values.specs.AcceptedLaws.{columns_own, columns_read}
use Rattle.values.specs.SpotLaws.{here, real_here, read_own}
use Rattle.values.proofs.columns_of.Goals as goal

pub bounds-p-t : goal.bounds-p-t
bounds-p-t c =
    let r = c.requires.ready.0 in
    (here c.args.file.now c.args.p.now.set r.body r.eight _ _ c.requires.at_spot.0 _ r.widths_are).0

pub overflow_add-past : goal.overflow_add-past
overflow_add-past c =
    let r = c.requires.ready.0 in
    omega (arith, c.from.ensures, (here c.args.file.now c.args.p.now.set r.body r.eight _ _ c.requires.at_spot.0 _ r.widths_are).1)

pub slice_bounds-result-end : goal.slice_bounds-result-end
slice_bounds-result-end c =
    let r = c.requires.ready.0 in
    let real = real_here c.args.file.now c.args.p.now.set r.body r.eight _ _ c.requires.at_spot.0 _ r.widths_are _ c.requires.ready.1 c.requires.at_spot.1 in
    omega (arith, c.from.ensures, real.inside)

pub returns : goal.returns
returns c =
    let file = c.args.file.now in
    let d = c.args.p.now.set in
    let first : ℕ = c.args.t.spot.first in
    let r = c.requires.ready.0 in
    let real = real_here file d r.body r.eight _ _ c.requires.at_spot.0 _ r.widths_are _ c.requires.ready.1 c.requires.at_spot.1 in
    let past = ap (λ (w : ℕ). first + w) c.from.ensures in
    (columns_own real _ past, columns_read real _ past ∙ read_own file d r.body r.eight _ _ c.requires.at_spot.0 _ r.widths_are)
