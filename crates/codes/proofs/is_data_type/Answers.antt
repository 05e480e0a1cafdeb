-- `codes::is_data_type` meets its contract.
use mathlib.Core.Path.{refl, sym}
use mathlib.Core.Bool.{Bool, true, false}
use Prim.Native.Nat.{ℕ}
use native.Mathlib.Omega.{arith}
use lib.IntN.{pos}
use Rattle.laws.specs.RangesLaws.{in_range}
use Rattle.codes.specs.Rule.{keeps}
use Rattle.codes.specs.RuleLaws.{keeps_past}
use Rattle.codes.specs.Form.{data_type}
use Rattle.codes.proofs.is_data_type.Goals as goal

abbrev listed : ℕ → Bool
listed v = keeps data_type (pos v)

pub returns-in-0-to-3 : goal.returns-in-0-to-3
unfolding keeps
returns-in-0-to-3 c = sym (in_range listed true 0 4 c.args.code refl (omega arith) (omega arith))

pub returns-in-0-to-3-2 : goal.returns-in-0-to-3-2
unfolding keeps
returns-in-0-to-3-2 c = sym (in_range listed true 5 2 c.args.code refl (omega arith) (omega arith))

pub returns-in-0-to-3-3 : goal.returns-in-0-to-3-3
unfolding keeps
returns-in-0-to-3-3 c = sym (in_range listed true 8 2 c.args.code refl (omega arith) (omega arith))

pub returns-in-0-to-3-4 : goal.returns-in-0-to-3-4
unfolding keeps
returns-in-0-to-3-4 c = sym (in_range listed true 11 3 c.args.code refl (omega arith) (omega arith))

pub returns-in-0-to-3-5 : goal.returns-in-0-to-3-5
unfolding keeps
returns-in-0-to-3-5 c = sym (in_range listed true 15 5 c.args.code refl (omega arith) (omega arith))

pub returns-in_default : goal.returns-in_default
unfolding keeps
returns-in_default c = sym (in_range listed false 4 1 c.args.code refl (omega arith) (omega arith))

pub returns-in_default-2 : goal.returns-in_default-2
unfolding keeps
returns-in_default-2 c = sym (in_range listed false 7 1 c.args.code refl (omega arith) (omega arith))

pub returns-in_default-3 : goal.returns-in_default-3
unfolding keeps
returns-in_default-3 c = sym (in_range listed false 10 1 c.args.code refl (omega arith) (omega arith))

pub returns-in_default-4 : goal.returns-in_default-4
unfolding keeps
returns-in_default-4 c = sym (in_range listed false 14 1 c.args.code refl (omega arith) (omega arith))

pub returns-in_default-5 : goal.returns-in_default-5
returns-in_default-5 c = sym (keeps_past data_type 20 _ refl (omega arith))
