-- `codes::is_slope` meets its contract.
use mathlib.Core.Path.{refl, sym}
use mathlib.Core.Bool.{true}
use native.Mathlib.Omega.{arith}
use lib.IntN.{pos}
use Rattle.laws.specs.RangesLaws.{in_range}
use Rattle.codes.specs.Rule.{keeps}
use Rattle.codes.specs.RuleLaws.{keeps_past}
use Rattle.codes.specs.Form.{slope}
use Rattle.codes.proofs.is_slope.Goals as goal

pub returns-in-0-to-1 : goal.returns-in-0-to-1
unfolding keeps
returns-in-0-to-1 c = sym (in_range (λ v. keeps slope (pos v)) true 0 2 c.args.size refl (omega arith) (omega arith))

pub returns-in_default : goal.returns-in_default
returns-in_default c = sym (keeps_past slope 2 _ refl (omega arith))
