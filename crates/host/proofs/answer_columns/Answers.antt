-- `host::answer_columns` meets its contract.
use native.Mathlib.Omega.{arith}
use Rattle.host.specs.Answer.{field_bytes, seen_bytes}
use Rattle.host.specs.AnswerLaws.{answered, answered_short, laid_columns}
use Rattle.output.specs.Output.{bytes_of}
use Rattle.host.proofs.answer_columns.Goals as goal

pub returns-then-out-lt8 : goal.returns-then-out-lt8
unfolding field_bytes seen_bytes bytes_of
returns-then-out-lt8 c = answered_short _ _ _ (omega arith) c.bare.ensures

pub returns : goal.returns
unfolding field_bytes seen_bytes bytes_of
returns c =
    let put = c.put_bytes.ensures in
    let put2 = c.put_bytes-2.ensures in
    answered _ _ _ _ (omega arith) c.bare-2.ensures (laid_columns _ _ _ _ _ put put2)
