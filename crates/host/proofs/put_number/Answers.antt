-- `host::put_number` meets its contract.
use mathlib.Core.Path.{refl, ◌∙◌}
use Rattle.host.specs.AnswerLaws.{laid_number}
use Rattle.host.proofs.put_number.Goals as goal

pub returns : goal.returns
returns c =
    let first = c.put_bytes.ensures in
    let second = c.put_bytes-2.ensures in
    let third = c.put_bytes-3.ensures in
    laid_number _ _ _ _ _ _ _ _ _ _ _ _ first second third
    (c.put_bytes-4.ensures ∙ rw c.scale_bits.ensures refl)
    (c.put_bytes-5.ensures ∙ rw c.from.ensures refl)
