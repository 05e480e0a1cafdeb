-- `format::read` meets its contract.
use Rattle.std.proofs.Common.{◌∙◌}
use Rattle.format.proofs.AnswerLaws.{answer_long, answer_short}
use Rattle.format.proofs.read.Goals as goal

pub returns-then-text-gt120 : goal.returns-then-text-gt120
returns-then-text-gt120 c = answer_long _ c.if-text-gt120.true

pub returns : goal.returns
returns c = c.read_packed.ensures ∙ answer_short _ _ c.if-text-gt120.false c.unblank-n.ensures.bytes
