-- `finish`: the size is cast only where it is in range.
use Rattle.std.proofs.Common.{◌≡◌, true, false, refl, sym, ap, ◌∙◌}
use borrow.Author.Tests.{le-leb, lt-leb, eq-eqb, ne_eqb}
use Rattle.integer.specs.Spelling.{limit}
use Rattle.integer.specs.Integer.{end_integer}
use Rattle.integer.proofs.IntegerLaws.{end_integer_number}
use Rattle.integer.proofs.finish.Goals as goal

pub returns-then-s-eq0 : goal.returns-then-s-eq0
unfolding end_integer
returns-then-s-eq0 c = simp (eq-eqb _ _ c.if-s-eq0.true)

pub returns-then-s-ne2 : goal.returns-then-s-ne2
unfolding end_integer
returns-then-s-ne2 c = simp (ne_eqb _ _ c.if-s-ne2.true, ne_eqb _ _ c.if-s-eq0.false)

pub returns-then-limit-s : goal.returns-then-limit-s
returns-then-limit-s c =
    let top : c.if-s.limit ≡ limit c.args.s.minus = elim c.if-s.branch [ goal.then-s w ↦ w.limit-is ∙ ap limit (sym w.if-s.true) | goal.else-s w ↦ w.limit-is ∙ ap limit (sym w.if-s.false) ] in
    sym (end_integer_number c.args.s c.args.s.minus false c.if-s-ne2.false refl (lt-leb _ _ (rw top at c.if-limit-s.true)))

pub returns : goal.returns
returns c =
    let top : c.if-s.limit ≡ limit c.args.s.minus = elim c.if-s.branch [ goal.then-s w ↦ w.limit-is ∙ ap limit (sym w.if-s.true) | goal.else-s w ↦ w.limit-is ∙ ap limit (sym w.if-s.false) ] in
    sym (end_integer_number c.args.s c.args.s.minus true c.if-s-ne2.false refl (le-leb _ _ (rw top at c.if-limit-s.false)))
