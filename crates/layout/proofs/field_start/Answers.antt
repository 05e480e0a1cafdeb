use Rattle.std.proofs.Common.{◌≡◌, ℕ, ◌≤◌, ◌<◌, List, length, get_or, take, min, refl, ap, ◌∙◌, ⊎_elim, add-one, length-take, arith}
use Rattle.std.proofs.lemmas.List.{get_or-take}
use Rattle.laws.specs.ChoiceLaws.{below_or_not}
use Rattle.laws.specs.Table.{tabulate}
use Rattle.layout.specs.Columns.{field_start, field_past}
use Rattle.layout.specs.ColumnsLaws.{field_start_next}
use Rattle.layout.specs.Layout.{layout_of, cell_of}
use Rattle.layout.specs.LayoutLaws.{width_cell, field_start_past, field_past_inside}
use Rattle.layout.proofs.field_start.Goals as goal

-- the widths before the field, as the code has them
module _ (case n : ℕ) (ws : List ℕ) (e : ws ≡ tabulate (cell_of case) 0 6) where
  count : n ≤ 6 → length (take n ws) ≡ n
  count m = omega (arith, length-take n ws, ap length e)

  width : (i : ℕ) → n ≤ 6 → i < length (take n ws) → get_or (take n ws) i 0 ≡ get_or (layout_of case).widths i 0
  width i m h = get_or-take n ws i 0 (omega (arith, count m)) ∙ width_cell case i ws e (omega (arith, count m))

pub loop-w-init : goal.loop-w-init
unfolding field_start
loop-w-init c = refl

pub overflow_add-at : goal.overflow_add-at
unfolding field_past
overflow_add-at c =
    let w = c.from-at.ensures ∙ width c.args.case _ _ c.line_widths-widths.ensures c.loop-w.w-index (omega (arith, c.min.ensures)) c.loop-w-test.true in
    record { fits = omega (arith, c.loop-w.invariant, field_past_inside c.args.case c.loop-w.w-index, w) }

pub loop-w-preserved : goal.loop-w-preserved
unfolding field_past
loop-w-preserved c =
    let w = c.from-at.ensures ∙ width c.args.case _ _ c.line_widths-widths.ensures c.loop-w.w-index (omega (arith, c.min.ensures)) c.loop-w-test.true in
    rw (add-one, field_start_next) (rw (c.loop-w.invariant, w) refl)

pub returns : goal.returns
returns c =
    let n = count c.args.case c.min.result c.line_widths-widths.result c.line_widths-widths.ensures (omega (arith, c.min.ensures)) in
    let all : c.loop-w.w-index ≡ min c.args.field 6 = omega (arith, n, c.min.ensures, c.loop-w-test.false, c.loop-w.auto.w-index-end) in
    c.loop-w.invariant
    ∙ ⊎_elim
    (λ h. let e : c.loop-w.w-index ≡ c.args.field = omega arith in ap (field_start (layout_of c.args.case).widths) e)
    (λ h. field_start_past c.args.case c.loop-w.w-index c.args.field (omega arith) (omega arith))
    (below_or_not c.args.field 6)
