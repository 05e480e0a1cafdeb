-- `host::answer_real` meets its contract.
use native.Mathlib.Omega.{arith}
use Rattle.host.specs.Answer.{field_bytes, seen_bytes, number_bytes}
use Rattle.host.specs.AnswerLaws.{answered, answered_short}
use Rattle.output.specs.Output.{bytes_of}
use Rattle.host.proofs.answer_real.Goals as goal

pub returns-then-out-lt20 : goal.returns-then-out-lt20
unfolding field_bytes seen_bytes number_bytes bytes_of
returns-then-out-lt20 c = answered_short _ _ _ (omega arith) c.bare.ensures

pub returns : goal.returns
unfolding field_bytes seen_bytes number_bytes bytes_of
returns c = answered _ _ _ _ (omega arith) c.bare-2.ensures c.put_number.ensures
