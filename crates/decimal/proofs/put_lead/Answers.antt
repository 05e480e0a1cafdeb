-- `decimal::put_lead` meets its contract.
use mathlib.Core.Path.{◌∙◌}
use Rattle.decimal.specs.PutLaws.{lead_minus, lead_plain}
use Rattle.decimal.proofs.put_lead.Goals as goal

pub returns-then-minus : goal.returns-then-minus
returns-then-minus c = lead_minus _ _ _ c.requires c.put_blanks.ensures c.if-minus.true

pub returns-else-minus : goal.returns-else-minus
returns-else-minus c = c.put_blanks.ensures ∙ lead_plain _ _ c.requires c.if-minus.false
