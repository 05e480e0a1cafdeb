-- `host::answer_value` meets its contract.
use Rattle.host.specs.AnswerLaws.{answered}
use mathlib.Core.Path.{refl}
use native.Mathlib.Omega.{arith}
use Rattle.host.specs.Answer.{value_bytes}
use Rattle.host.proofs.answer_value.Goals as goal

pub returns-in-Err : goal.returns-in-Err
unfolding value_bytes
returns-in-Err c = rw c.in-Err.is (answered _ _ _ _ (omega arith) c.pack.ensures refl)
