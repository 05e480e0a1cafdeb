-- `host::answer_number` meets its contract.
use Rattle.host.specs.AnswerLaws.{answered, answered_short}
use mathlib.Core.Path.{refl}
use native.Mathlib.Omega.{arith}
use Rattle.host.specs.Answer.{number_shown, number_bytes}
use Rattle.output.specs.Output.{bytes_of}
use Rattle.host.proofs.answer_number.Goals as goal

pub returns-then-out-lt20 : goal.returns-then-out-lt20
unfolding number_shown number_bytes bytes_of
returns-then-out-lt20 c = rw c.in-Ok.is (answered_short _ _ _ (omega arith) c.bare.ensures)

pub returns-else-out-lt20 : goal.returns-else-out-lt20
unfolding number_shown number_bytes bytes_of
returns-else-out-lt20 c = rw c.in-Ok.is (answered _ _ _ _ (omega arith) c.bare-in-Ok.ensures c.put_number.ensures)

pub returns-in-Err : goal.returns-in-Err
unfolding number_shown
returns-in-Err c = rw c.in-Err.is (answered _ _ _ _ (omega arith) c.pack.ensures refl)
