-- `codes::is_autorange_method` meets its contract.
use mathlib.Core.Path.{refl, sym}
use mathlib.Core.Bool.{true, false}
use native.Mathlib.Omega.{arith}
use lib.IntN.{pos}
use Rattle.laws.specs.RangesLaws.{in_range}
use Rattle.codes.specs.Rule.{keeps}
use Rattle.codes.specs.RuleLaws.{keeps_past}
use Rattle.codes.specs.Form.{autorange_method}
use Rattle.codes.proofs.is_autorange_method.Goals as goal

pub returns-in-1-to-2 : goal.returns-in-1-to-2
unfolding keeps
returns-in-1-to-2 c = sym (in_range (λ v. keeps autorange_method (pos v)) true 1 2 c.args.code refl (omega arith) (omega arith))

pub returns-in_default : goal.returns-in_default
unfolding keeps
returns-in_default c = sym (in_range (λ v. keeps autorange_method (pos v)) false 0 1 c.args.code refl (omega arith) (omega arith))

pub returns-in_default-2 : goal.returns-in_default-2
returns-in_default-2 c = sym (keeps_past autorange_method 3 _ refl (omega arith))
