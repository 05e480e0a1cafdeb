-- `host::answer_field` meets its contract.
use mathlib.Core.Path.{refl}
use native.Mathlib.Omega.{arith}
use Rattle.host.specs.Answer.{field_bytes}
use Rattle.host.specs.AnswerLaws.{answered}
use Rattle.host.proofs.answer_field.Goals as goal

pub returns-in-Err : goal.returns-in-Err
unfolding field_bytes
returns-in-Err c = rw c.in-Err.is (answered _ _ _ _ (omega arith) c.pack.ensures refl)
