-- `codes::is_function_type` meets its contract.
use mathlib.Core.Path.{refl, sym}
use mathlib.Core.Bool.{true}
use native.Mathlib.Omega.{arith}
use lib.IntN.{pos}
use Rattle.laws.specs.RangesLaws.{in_range}
use Rattle.codes.specs.Rule.{keeps}
use Rattle.codes.specs.RuleLaws.{keeps_past}
use Rattle.codes.specs.Form.{function_type}
use Rattle.codes.proofs.is_function_type.Goals as goal

pub returns-in-0-to-28 : goal.returns-in-0-to-28
unfolding keeps
returns-in-0-to-28 c = sym (in_range (λ v. keeps function_type (pos v)) true 0 29 c.args.code refl (omega arith) (omega arith))

pub returns-in_default : goal.returns-in_default
returns-in_default c = sym (keeps_past function_type 29 _ refl (omega arith))
