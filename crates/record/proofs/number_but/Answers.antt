-- `record::number_but` meets its contract.
use Rattle.std.specs.Prelude.{◌≡◌, ℕ, zero, suc, ◌<◌, Err, refl}
use Rattle.std.proofs.Common.{sym, ◌∙◌, arith}
use Rattle.field.specs.Field.{answered}
use Rattle.field.specs.FieldLaws.{answered_ok, answered_err}
use Rattle.record.specs.OverlookedLaws.{but_none, but_overlooked, but_looked}
use Rattle.record.proofs.number_but.Goals as goal

pub returns-in_default : goal.returns-in_default
returns-in_default c = rw (answered_ok _ (sym c.in_default.is ∙ c.number_at.ensures), but_none c.args.overlooked.now) refl

pub returns-then-contains : goal.returns-then-contains
returns-then-contains c =
    let found = answered_err _ _ (sym c.in-Err.is ∙ c.number_at.ensures) in
    rw (← found.0, but_overlooked _ _ (sym c.contains.ensures.value ∙ c.if-contains.true)) refl

some : (n : ℕ) → 0 < n → Err n ≡ answered n
some zero p = absurd (omega arith)
some (suc n) p = refl

pub returns : goal.returns
returns c =
    let found = answered_err _ _ (sym c.in-Err.is ∙ c.number_at.ensures) in
    rw (← found.0, but_looked _ _ (sym c.contains.ensures.value ∙ c.if-contains.false)) (some _ (omega (arith, found.0, found.1)))
