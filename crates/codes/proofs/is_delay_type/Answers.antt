-- `codes::is_delay_type` meets its contract.
use mathlib.Core.Path.{refl, sym}
use mathlib.Core.Bool.{true, false}
use native.Mathlib.Omega.{arith}
use lib.IntN.{pos}
use Rattle.laws.specs.RangesLaws.{in_range}
use Rattle.codes.specs.Rule.{keeps}
use Rattle.codes.specs.RuleLaws.{keeps_past}
use Rattle.codes.specs.Form.{delay_type}
use Rattle.codes.proofs.is_delay_type.Goals as goal

pub returns-in-1-to-3 : goal.returns-in-1-to-3
unfolding keeps
returns-in-1-to-3 c = sym (in_range (λ v. keeps delay_type (pos v)) true 1 3 c.args.code refl (omega arith) (omega arith))

pub returns-in_default : goal.returns-in_default
unfolding keeps
returns-in_default c = sym (in_range (λ v. keeps delay_type (pos v)) false 0 1 c.args.code refl (omega arith) (omega arith))

pub returns-in_default-2 : goal.returns-in_default-2
returns-in_default-2 c = sym (keeps_past delay_type 4 _ refl (omega arith))
