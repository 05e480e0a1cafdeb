-- `format::Fields::lay_item` and `format::Fields::lay_list` meet their contracts.
use Rattle.std.proofs.Common.{sym, ◌∙◌, eq-eqb, ne_eqb}
use Rattle.format.proofs.LayLaws.{item_zero, list_zero, item_is, list_is}
use Rattle.format.proofs.Fields.+lay_item_lay_list.Goals as goal

pub lay_item-returns-then-left-eq0 : goal.lay_item-returns-then-left-eq0
lay_item-returns-then-left-eq0 t c = item_zero _ _ _ _ c.if-left-eq0.true

pub lay_item-returns-in_err-c : goal.lay_item-returns-in_err-c
lay_item-returns-in_err-c t c = rw c.from_residual.ensures (item_is _ _ _ _ _ c.if-left-eq0.false (rw (← c.in_err-c.ensures)))

pub lay_item-returns-in_err-past : goal.lay_item-returns-in_err-past
lay_item-returns-in_err-past t c =
    rw c.from_residual-in_err-past.ensures
    (item_is _ _ _ _ _ c.if-left-eq0.false
    (rw (← c.in_ok-c.ensures, eq-eqb _ 40 (sym c.byte_at.ensures ∙ c.if-byte_at-eq40.true), ← c.in_err-past.ensures)))

pub lay_item-returns-then-byte_at-eq40 : goal.lay_item-returns-then-byte_at-eq40
lay_item-returns-then-byte_at-eq40 t c =
    item_is _ _ _ _ _ c.if-left-eq0.false
    (rw (← c.in_ok-c.ensures, eq-eqb _ 40 (sym c.byte_at.ensures ∙ c.if-byte_at-eq40.true), ← c.in_ok-past.ensures) c.lay_group.ensures)

pub lay_item-returns-in_err-i : goal.lay_item-returns-in_err-i
lay_item-returns-in_err-i t c =
    rw c.from_residual-in_err-i.ensures
    (item_is _ _ _ _ _ c.if-left-eq0.false
    (rw (← c.in_ok-c.ensures, ne_eqb _ 40 (λ e. c.if-byte_at-eq40.false (c.byte_at.ensures ∙ e)), ← c.in_err-i.ensures)))

pub lay_item-returns : goal.lay_item-returns
lay_item-returns t c =
    item_is _ _ _ _ _ c.if-left-eq0.false
    (rw (← c.in_ok-c.ensures, ne_eqb _ 40 (λ e. c.if-byte_at-eq40.false (c.byte_at.ensures ∙ e)), ← c.in_ok-i.ensures, c.lay_plain.ensures))

pub lay_list-returns-then-left-eq0 : goal.lay_list-returns-then-left-eq0
lay_list-returns-then-left-eq0 t c = list_zero _ _ _ _ c.if-left-eq0.true

pub lay_list-returns-in_err-past : goal.lay_list-returns-in_err-past
lay_list-returns-in_err-past t c = rw c.from_residual.ensures (list_is _ _ _ _ _ c.if-left-eq0.false (rw (← c.in_err-past.ensures)))

pub lay_list-returns-then-byte_at-eq44 : goal.lay_list-returns-then-byte_at-eq44
lay_list-returns-then-byte_at-eq44 t c =
    list_is _ _ _ _ _ c.if-left-eq0.false
    (rw (← c.in_ok-past.ensures, eq-eqb _ 44 (sym c.byte_at.ensures ∙ c.if-byte_at-eq44.true)) c.lay_list.ensures)

pub lay_list-returns : goal.lay_list-returns
lay_list-returns t c =
    list_is _ _ _ _ _ c.if-left-eq0.false
    (rw (← c.in_ok-past.ensures, ne_eqb _ 44 (λ e. c.if-byte_at-eq44.false (c.byte_at.ensures ∙ e))))
