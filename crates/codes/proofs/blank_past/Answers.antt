-- `codes::blank_past` meets its contract.
use mathlib.Core.Path.{refl}
use native.Mathlib.Omega.{arith}
use Rattle.codes.specs.Form.{forms, form_of}
use Rattle.codes.specs.FormLaws.{optional_of_never}
use Rattle.codes.proofs.blank_past.Goals as goal

pub returns-in-14 : goal.returns-in-14
unfolding form_of forms
returns-in-14 c = rw c.in-14.is refl

pub returns-in-15 : goal.returns-in-15
unfolding form_of forms
returns-in-15 c = rw c.in-15.is refl

pub returns-in-17 : goal.returns-in-17
unfolding form_of forms
returns-in-17 c = rw c.in-17.is refl

pub returns-in_default : goal.returns-in_default
returns-in_default c = rw (optional_of_never c.args.form (omega arith) (omega arith) (omega arith) (omega arith)) refl
