-- `codes::is_acquisition_monitor` meets its contract.
use mathlib.Core.Path.{refl, sym}
use mathlib.Core.Bool.{true}
use native.Mathlib.Omega.{arith}
use lib.IntN.{pos}
use Rattle.laws.specs.RangesLaws.{in_range}
use Rattle.codes.specs.Rule.{keeps}
use Rattle.codes.specs.RuleLaws.{keeps_past}
use Rattle.codes.specs.Form.{acquisition_monitor}
use Rattle.codes.proofs.is_acquisition_monitor.Goals as goal

pub returns-in-0-to-9 : goal.returns-in-0-to-9
unfolding keeps
returns-in-0-to-9 c = sym (in_range (λ v. keeps acquisition_monitor (pos v)) true 0 10 c.args.code refl (omega arith) (omega arith))

pub returns-in_default : goal.returns-in_default
returns-in_default c = sym (keeps_past acquisition_monitor 10 _ refl (omega arith))
