-- `codes::is_ordinate_type` meets its contract.
use mathlib.Core.Path.{refl, sym}
use mathlib.Core.Bool.{true}
use native.Mathlib.Omega.{arith}
use borrow.Author.Tests.{ne_eqb}
use lib.IntN.{pos}
use Rattle.laws.specs.RangesLaws.{in_range}
use Rattle.codes.specs.Rule.{keeps}
use Rattle.codes.specs.RuleLaws.{keeps_past}
use Rattle.codes.specs.Form.{ordinate_type}
use Rattle.codes.proofs.is_ordinate_type.Goals as goal

pub returns-in-2 : goal.returns-in-2
unfolding keeps
returns-in-2 c = sym (in_range (λ v. keeps ordinate_type (pos v)) true 2 1 c.args.code refl (omega arith) (omega arith))

pub returns-in-2-2 : goal.returns-in-2-2
unfolding keeps
returns-in-2-2 c = sym (in_range (λ v. keeps ordinate_type (pos v)) true 4 3 c.args.code refl (omega arith) (omega arith))

pub returns-in_default-2 : goal.returns-in_default-2
returns-in_default-2 c = sym (keeps_past ordinate_type 7 _ refl (omega arith))

pub returns-in_default : goal.returns-in_default
unfolding keeps
returns-in_default c =
    let code = c.args.code in
    simp (ne_eqb code 2 (omega arith), ne_eqb code 4 (omega arith), ne_eqb code 5 (omega arith), ne_eqb code 6 (omega arith))
