-- `walk::may_close` meets its contract.
use mathlib.Core.Path.{sym, ap, ◌∙◌}
use borrow.Author.Tests.{ltb-true, ltb-false, lt-leb, le-leb}
use Rattle.std.specs.Prelude.{◌≡◌, not, true, false, ltb}
use Rattle.record_table.specs.Records.{no_record}
use Rattle.walk.specs.Due.{may_close, record_due}
use Rattle.walk.specs.DueLaws.{due_record_is_some}
use Rattle.walk.proofs.may_close.Goals as goal

pub returns-then-is_none : goal.returns-then-is_none
unfolding may_close
returns-then-is_none c =
    let none : ltb (record_due c.args.d) no_record ≡ false = sym (due_record_is_some _) ∙ rw (← c.record_due.ensures) (c.is_none.ensures ∙ ap not c.if-is_none.true) in
    simp (le-leb _ _ (ltb-false _ _ none))

pub returns-else-is_none : goal.returns-else-is_none
unfolding may_close
returns-else-is_none c =
    let some : ltb (record_due c.args.d) no_record ≡ true = sym (due_record_is_some _) ∙ rw (← c.record_due.ensures) (c.is_none.ensures ∙ ap not c.if-is_none.false) in
    c.if-is_none.false ∙ simp (lt-leb _ _ (ltb-true _ _ some))
