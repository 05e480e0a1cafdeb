-- `record::stray_at` meets its contract.
use Rattle.std.proofs.Common.{refl, sym, ◌∙◌, ap}
use Rattle.laws.specs.Choice.{above_zero}
use Rattle.record.specs.CheckLaws.{past_width, stray_in_skipped, stray_in_owned}
use Rattle.record.proofs.stray_at.Goals as goal

pub returns-then-form : goal.returns-then-form
returns-then-form c = c.first_byte.ensures ∙ rw past_width (ap above_zero (sym (stray_in_skipped _ _ _ c.if-form.true)))

pub returns : goal.returns
returns c = rw (stray_in_owned _ _ _ c.if-form.false) refl
