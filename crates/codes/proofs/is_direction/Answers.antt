-- `codes::is_direction` meets its contract.
use mathlib.Core.Path.{refl, sym}
use mathlib.Core.Bool.{true}
use native.Mathlib.Omega.{arith}
use lib.IntN.{pos}
use Rattle.laws.specs.RangesLaws.{in_range}
use Rattle.codes.specs.Rule.{keeps}
use Rattle.codes.specs.RuleLaws.{keeps_past}
use Rattle.codes.specs.Form.{direction}
use Rattle.codes.proofs.is_direction.Goals as goal

pub returns-in-0-to-6 : goal.returns-in-0-to-6
unfolding keeps
returns-in-0-to-6 c = sym (in_range (λ v. keeps direction (pos v)) true 0 7 c.args.size refl (omega arith) (omega arith))

pub returns-in_default : goal.returns-in_default
returns-in_default c = sym (keeps_past direction 7 _ refl (omega arith))
