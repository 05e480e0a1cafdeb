-- `format::read_packed` meets its contract.
use Rattle.format.specs.Laid.{padded}
use Rattle.format.proofs.AnswerLaws.{answer_deep, answer_none, answer_part, answer_some, answer_wide}
use Rattle.format.proofs.read_packed.Goals as goal

pub returns-in_default : goal.returns-in_default
returns-in_default c = answer_none _ c.in_default.ensures

pub returns-then-m-s : goal.returns-then-m-s
returns-then-m-s c = answer_part _ _ c.in-Some.ensures c.if-m-s.true

pub returns-then-m-gt3 : goal.returns-then-m-gt3
returns-then-m-gt3 c = answer_deep _ _ c.in-Some.ensures c.if-m-s.false c.if-m-gt3.true

pub returns-then-m-gt80 : goal.returns-then-m-gt80
returns-then-m-gt80 c = answer_wide _ _ c.in-Some.ensures c.if-m-s.false c.if-m-gt3.false c.if-m-gt80.true

pub returns : goal.returns
unfolding padded
returns c = answer_some _ _ c.in-Some.ensures c.if-m-s.false c.if-m-gt3.false _ _ c.if-m-gt80.false c.lay_list.ensures
