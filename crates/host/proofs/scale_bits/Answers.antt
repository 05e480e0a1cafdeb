-- `host::scale_bits` meets its contract.
use Rattle.host.specs.AnswerLaws.{twos_complement_below, twos_complement_above}
use borrow.Author.Rules.{rules}
use native.Mathlib.Omega.{arith}
use Rattle.host.proofs.scale_bits.Goals as goal

pub returns-then-below : goal.returns-then-below
returns-then-below c = rw (c.from.ensures, c.if-below.true) (twos_complement_below _ _ (search rules) (omega arith) c.wrapping_neg.ensures)

pub returns : goal.returns
returns c = rw (c.from-2.ensures, c.if-below.false) (twos_complement_above _ (search rules))
