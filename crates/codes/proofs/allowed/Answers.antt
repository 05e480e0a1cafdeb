-- `codes::allowed` meets its contract.
use mathlib.Core.Path.{sym}
use Rattle.codes.specs.RuleLaws.{keeps_minus, signed_plus}
use Rattle.codes.specs.Form.{allowed_of}
use Rattle.codes.proofs.allowed.Goals as goal

pub returns-then-minus-size : goal.returns-then-minus-size
unfolding allowed_of
returns-then-minus-size c = rw (c.takes_minus.ensures, c.allowed_size.ensures) (sym (keeps_minus _ c.args.minus c.args.size c.if-minus-size.true))

pub returns : goal.returns
unfolding allowed_of
returns c = rw (signed_plus c.args.minus c.args.size c.if-minus-size.false) c.allowed_size-2.ensures
