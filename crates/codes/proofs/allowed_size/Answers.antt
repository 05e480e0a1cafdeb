-- `codes::allowed_size` meets its contract: each arm's row is that of its code.
use mathlib.Core.Path.{refl, sym}
use mathlib.Core.Bool.{true, false}
use Prim.Native.Nat.{zero-le}
use native.Mathlib.Omega.{arith}
use borrow.Author.Tests.{le-leb}
use Rattle.laws.specs.RangesLaws.{in_range}
use Rattle.codes.specs.Rule.{keeps}
use Rattle.codes.specs.Form.{forms, form_of, allowed_of}
use Rattle.codes.specs.FormLaws.{form_of_past, rest_past}
use Rattle.codes.proofs.allowed_size.Goals as goal

pub returns-in-5 : goal.returns-in-5
unfolding allowed_of form_of forms keeps
returns-in-5 c = rw c.in-5.is (sym (le-leb 0 c.args.size zero-le))

pub returns-in-6 : goal.returns-in-6
unfolding allowed_of form_of forms keeps
returns-in-6 c = rw c.in-6.is refl

pub returns-in-7 : goal.returns-in-7
unfolding allowed_of form_of forms keeps
returns-in-7 c = rw c.in-7.is c.is_function_type.ensures

pub returns-in-8 : goal.returns-in-8
unfolding allowed_of form_of forms keeps
returns-in-8 c = rw c.in-8.is c.is_direction.ensures

pub returns-in-9 : goal.returns-in-9
unfolding allowed_of form_of forms keeps
returns-in-9 c = rw c.in-9.is c.is_ordinate_type.ensures

pub returns-in-10 : goal.returns-in-10
unfolding allowed_of form_of forms keeps
returns-in-10 c = rw c.in-10.is c.is_within.ensures

pub returns-in-11 : goal.returns-in-11
unfolding allowed_of form_of forms keeps
returns-in-11 c = rw c.in-11.is c.is_within-in-11.ensures

pub returns-in-12 : goal.returns-in-12
unfolding allowed_of form_of forms keeps
returns-in-12 c = rw c.in-12.is c.is_data_type.ensures

pub returns-in-13 : goal.returns-in-13
unfolding allowed_of form_of forms keeps
returns-in-13 c = rw c.in-13.is c.is_within-in-13.ensures

pub returns-in-14 : goal.returns-in-14
unfolding allowed_of form_of forms keeps
returns-in-14 c = rw c.in-14.is refl

pub returns-in-15 : goal.returns-in-15
unfolding allowed_of form_of forms keeps
returns-in-15 c = rw c.in-15.is c.is_within-in-15.ensures

pub returns-in-16 : goal.returns-in-16
unfolding allowed_of form_of forms keeps
returns-in-16 c = rw c.in-16.is c.is_within-in-16.ensures

pub returns-in-17 : goal.returns-in-17
unfolding allowed_of form_of forms keeps
returns-in-17 c = rw c.in-17.is c.is_within-in-17.ensures

pub returns-in-18 : goal.returns-in-18
unfolding allowed_of form_of forms keeps
returns-in-18 c = rw c.in-18.is c.is_trigger_type.ensures

pub returns-in-19 : goal.returns-in-19
unfolding allowed_of form_of forms keeps
returns-in-19 c = rw c.in-19.is c.is_duplicate_option.ensures

pub returns-in-20 : goal.returns-in-20
unfolding allowed_of form_of forms keeps
returns-in-20 c = rw c.in-20.is c.is_window.ensures

pub returns-in-21 : goal.returns-in-21
unfolding allowed_of form_of forms keeps
returns-in-21 c = rw c.in-21.is c.is_slope.ensures

pub returns-in-22 : goal.returns-in-22
unfolding allowed_of form_of forms keeps
returns-in-22 c = rw c.in-22.is c.is_delay_type.ensures

pub returns-in-23 : goal.returns-in-23
unfolding allowed_of form_of forms keeps
returns-in-23 c = rw c.in-23.is c.is_autorange_method.ensures

pub returns-in-24 : goal.returns-in-24
unfolding allowed_of form_of forms keeps
returns-in-24 c = rw c.in-24.is c.is_acquisition_results.ensures

pub returns-in-25 : goal.returns-in-25
unfolding allowed_of form_of forms keeps
returns-in-25 c = rw c.in-25.is c.is_power_accumulation.ensures

pub returns-in-26 : goal.returns-in-26
unfolding allowed_of form_of forms keeps
returns-in-26 c = rw c.in-26.is c.is_amplitude_units.ensures

pub returns-in-27 : goal.returns-in-27
unfolding allowed_of form_of forms keeps
returns-in-27 c = rw c.in-27.is c.is_display_units.ensures

pub returns-in-28 : goal.returns-in-28
unfolding allowed_of form_of forms keeps
returns-in-28 c = rw c.in-28.is c.is_background_grid.ensures

pub returns-in-29 : goal.returns-in-29
unfolding allowed_of form_of forms keeps
returns-in-29 c = rw c.in-29.is c.is_acquisition_monitor.ensures

pub returns-in-30 : goal.returns-in-30
unfolding allowed_of form_of forms keeps
returns-in-30 c = rw c.in-30.is c.is_within-in-30.ensures

pub returns-in-0-to-4 : goal.returns-in-0-to-4
unfolding allowed_of form_of forms keeps
returns-in-0-to-4 c = sym (in_range (λ k. allowed_of k false c.args.size) true 0 5 c.args.form refl (omega arith) (omega arith))

pub returns-in_default : goal.returns-in_default
unfolding allowed_of form_of forms keeps
returns-in_default c = rw (form_of_past c.args.form (rest_past 5 26 c.args.form (omega arith) c.in_default.in_default-own.rest)) refl
