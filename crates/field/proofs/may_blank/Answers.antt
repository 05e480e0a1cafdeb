-- `field::may_blank` meets its contract.
use Prim.Native.Nat.{◌≤◌}
use mathlib.Core.Path.{sym, ◌∙◌}
use Rattle.field.specs.FieldLaws.{blank_past_inside, may_blank_some, may_blank_none}
use native.Mathlib.Omega.{arith}
use Rattle.field.proofs.may_blank.Goals as goal

pub slice_bounds-is_blank-end : goal.slice_bounds-is_blank-end
slice_bounds-is_blank-end c = let z : c.blank_past-past.result ≤ 80 = rw c.blank_past-past.ensures (blank_past_inside _) in omega arith

pub returns-then-from-past : goal.returns-then-from-past
returns-then-from-past c =
    let past = c.blank_past-past.ensures in
    let from = c.blank_from-from.ensures in
    c.is_blank.ensures ∙ simp (past, from) (sym (may_blank_some _ _ (rw (← past, ← from) c.if-from-past.true)))

pub returns : goal.returns
returns c = sym (may_blank_none _ _ (rw (← c.blank_past-past.ensures, ← c.blank_from-from.ensures) c.if-from-past.false))
