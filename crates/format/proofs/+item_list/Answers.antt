-- `format::item` and `format::list` meet their contracts.
use Rattle.std.proofs.Common.{sym, ◌∙◌, eq-eqb, ne_eqb}
use Rattle.format.proofs.StepLaws.{item_zero, list_zero, item_is, list_is}
use Rattle.format.proofs.+item_list.Goals as goal

pub item-returns-then-left-eq0 : goal.item-returns-then-left-eq0
item-returns-then-left-eq0 t c = item_zero _ _ _ c.if-left-eq0.true

pub item-returns-in_err-c : goal.item-returns-in_err-c
item-returns-in_err-c t c = c.from_residual.ensures ∙ item_is _ _ _ _ c.if-left-eq0.false (rw (← c.in_err-c.ensures))

pub item-returns-in_err-m : goal.item-returns-in_err-m
item-returns-in_err-m t c =
    c.from_residual-in_err-m.ensures ∙ item_is _ _ _ _ c.if-left-eq0.false
    (rw (← c.in_ok-c.ensures, eq-eqb _ 40 (sym c.byte_at.ensures ∙ c.if-byte_at-eq40.true), ← c.in_err-m.ensures))

pub item-returns-then-byte_at-eq40 : goal.item-returns-then-byte_at-eq40
item-returns-then-byte_at-eq40 t c =
    item_is _ _ _ _ c.if-left-eq0.false
    (rw (← c.in_ok-c.ensures, eq-eqb _ 40 (sym c.byte_at.ensures ∙ c.if-byte_at-eq40.true), ← c.in_ok-m.ensures) c.measure_group.ensures)

pub item-returns-in_err-i : goal.item-returns-in_err-i
item-returns-in_err-i t c =
    c.from_residual-in_err-i.ensures ∙ item_is _ _ _ _ c.if-left-eq0.false
    (rw (← c.in_ok-c.ensures, ne_eqb _ 40 (λ e. c.if-byte_at-eq40.false (c.byte_at.ensures ∙ e)), ← c.in_err-i.ensures))

pub item-returns : goal.item-returns
item-returns t c =
    item_is _ _ _ _ c.if-left-eq0.false
    (rw (← c.in_ok-c.ensures, ne_eqb _ 40 (λ e. c.if-byte_at-eq40.false (c.byte_at.ensures ∙ e)), ← c.in_ok-i.ensures, c.measure_plain.ensures))

pub list-returns-then-left-eq0 : goal.list-returns-then-left-eq0
list-returns-then-left-eq0 t c = list_zero _ _ _ c.if-left-eq0.true

pub list-returns-in_err-i : goal.list-returns-in_err-i
list-returns-in_err-i t c = c.from_residual.ensures ∙ list_is _ _ _ _ c.if-left-eq0.false (rw (← c.in_err-i.ensures))

pub list-returns-in_err-m : goal.list-returns-in_err-m
list-returns-in_err-m t c =
    c.from_residual-in_err-m.ensures ∙ list_is _ _ _ _ c.if-left-eq0.false
    (rw (← c.in_ok-i.ensures, eq-eqb _ 44 (sym c.byte_at.ensures ∙ c.if-byte_at-eq44.true), ← c.in_err-m.ensures))

pub list-returns-then-byte_at-eq44 : goal.list-returns-then-byte_at-eq44
list-returns-then-byte_at-eq44 t c =
    list_is _ _ _ _ c.if-left-eq0.false
    (rw (← c.in_ok-i.ensures, eq-eqb _ 44 (sym c.byte_at.ensures ∙ c.if-byte_at-eq44.true), ← c.in_ok-m.ensures, c.measure_more.ensures))

pub list-returns : goal.list-returns
list-returns t c =
    list_is _ _ _ _ c.if-left-eq0.false
    (rw (← c.in_ok-i.ensures, ne_eqb _ 44 (λ e. c.if-byte_at-eq44.false (c.byte_at.ensures ∙ e))))
