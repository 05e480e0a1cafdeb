-- `codes::is_window` meets its contract.
use mathlib.Core.Path.{refl, sym}
use mathlib.Core.Bool.{true}
use native.Mathlib.Omega.{arith}
use lib.IntN.{pos}
use Rattle.laws.specs.RangesLaws.{in_range}
use Rattle.codes.specs.Rule.{keeps}
use Rattle.codes.specs.RuleLaws.{keeps_past}
use Rattle.codes.specs.Form.{window}
use Rattle.codes.proofs.is_window.Goals as goal

pub returns-in-0-to-3 : goal.returns-in-0-to-3
unfolding keeps
returns-in-0-to-3 c = sym (in_range (λ v. keeps window (pos v)) true 0 4 c.args.code refl (omega arith) (omega arith))

pub returns-in_default : goal.returns-in_default
returns-in_default c = sym (keeps_past window 4 _ refl (omega arith))
