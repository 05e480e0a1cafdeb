-- `format::counted` meets its contract.
use Rattle.std.proofs.Common.{sym, ◌∙◌, eq-eqb, ne_eqb}
use Rattle.format.proofs.MeasuredLaws.{tally_bare, tally_number}
use Rattle.format.proofs.counted.Goals as goal

pub returns-then-not-is_digit : goal.returns-then-not-is_digit
returns-then-not-is_digit c = tally_bare _ _ _ c.byte_at.ensures (sym c.is_digit.ensures ∙ c.if-not-is_digit.true)

pub returns-in_err-n : goal.returns-in_err-n
returns-in_err-n c = c.from_residual.ensures ∙ rw (tally_number _ _ _ c.byte_at.ensures (sym c.is_digit.ensures ∙ c.if-not-is_digit.false), ← c.in_err-n.ensures)

pub returns-then-n-eq0 : goal.returns-then-n-eq0
returns-then-n-eq0 c = rw (tally_number _ _ _ c.byte_at.ensures (sym c.is_digit.ensures ∙ c.if-not-is_digit.false), ← c.in_ok-n.ensures, eq-eqb _ _ c.if-n-eq0.true)

pub returns : goal.returns
returns c = rw (tally_number _ _ _ c.byte_at.ensures (sym c.is_digit.ensures ∙ c.if-not-is_digit.false), ← c.in_ok-n.ensures, ne_eqb _ _ c.if-n-eq0.false)
