-- `codes::is_acquisition_results` meets its contract.
use mathlib.Core.Path.{refl, sym}
use mathlib.Core.Bool.{true, false}
use native.Mathlib.Omega.{arith}
use lib.IntN.{pos}
use Rattle.laws.specs.RangesLaws.{in_range}
use Rattle.codes.specs.Rule.{keeps}
use Rattle.codes.specs.RuleLaws.{keeps_past}
use Rattle.codes.specs.Form.{acquisition_results}
use Rattle.codes.proofs.is_acquisition_results.Goals as goal

pub returns-in-2-to-3 : goal.returns-in-2-to-3
unfolding keeps
returns-in-2-to-3 c = sym (in_range (λ v. keeps acquisition_results (pos v)) true 2 2 c.args.code refl (omega arith) (omega arith))

pub returns-in-2-to-3-2 : goal.returns-in-2-to-3-2
unfolding keeps
returns-in-2-to-3-2 c = sym (in_range (λ v. keeps acquisition_results (pos v)) true 5 10 c.args.code refl (omega arith) (omega arith))

pub returns-in_default : goal.returns-in_default
unfolding keeps
returns-in_default c = sym (in_range (λ v. keeps acquisition_results (pos v)) false 0 2 c.args.code refl (omega arith) (omega arith))

pub returns-in_default-2 : goal.returns-in_default-2
unfolding keeps
returns-in_default-2 c = sym (in_range (λ v. keeps acquisition_results (pos v)) false 4 1 c.args.code refl (omega arith) (omega arith))

pub returns-in_default-3 : goal.returns-in_default-3
returns-in_default-3 c = sym (keeps_past acquisition_results 15 _ refl (omega arith))
