-- `bits` meets its contract.
use mathlib.Core.Path.{sym, ◌∙◌}
use Rattle.exact.specs.Bits.{bits_of}
use Rattle.exact.proofs.bits.Goals as goal

pub returns-then-is_nan : goal.returns-then-is_nan
unfolding bits_of
returns-then-is_nan c = simp (sym c.is_nan.ensures.value ∙ c.if-is_nan.true)

pub returns : goal.returns
unfolding bits_of
returns c = simp (sym c.is_nan.ensures.value ∙ c.if-is_nan.false)
