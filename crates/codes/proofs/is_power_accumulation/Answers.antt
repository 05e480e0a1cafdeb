-- `codes::is_power_accumulation` meets its contract.
use mathlib.Core.Path.{refl, sym}
use mathlib.Core.Bool.{true}
use native.Mathlib.Omega.{arith}
use lib.IntN.{pos}
use Rattle.laws.specs.RangesLaws.{in_range}
use Rattle.codes.specs.Rule.{keeps}
use Rattle.codes.specs.RuleLaws.{keeps_past}
use Rattle.codes.specs.Form.{power_accumulation}
use Rattle.codes.proofs.is_power_accumulation.Goals as goal

pub returns-in-0-to-2 : goal.returns-in-0-to-2
unfolding keeps
returns-in-0-to-2 c = sym (in_range (λ v. keeps power_accumulation (pos v)) true 0 3 c.args.code refl (omega arith) (omega arith))

pub returns-in_default : goal.returns-in_default
returns-in_default c = sym (keeps_past power_accumulation 3 _ refl (omega arith))
