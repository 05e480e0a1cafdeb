-- `walk::after_record` meets its contract.
use mathlib.Core.Path.{refl, ◌∙◌}
use native.Mathlib.Omega.{arith}
use Rattle.record_table.specs.Records.{no_record}
use Rattle.record_table.specs.TypedSets.{line_seven, typed_sets, following}
use Rattle.walk.specs.DueLaws.{uncounted, after_record_data, after_record_trace, after_record_orders, after_record_next}
use Rattle.walk.proofs.after_record.Goals.{in_default-via-in-0+in_default, in_default-via-in-1+in_default, in_default-via-in-4+in_default, in_default-via-in_default}
use Rattle.walk.proofs.after_record.Goals as goal

pub returns-in-0-eq6 : goal.returns-in-0-eq6
returns-in-0-eq6 c = c.after_data_form.ensures ∙ after_record_data _ _ c.in-0-eq6.is-0 c.in-0-eq6.is-1

pub returns-in-1-eq0 : goal.returns-in-1-eq0
returns-in-1-eq0 c = c.after_trace.ensures ∙ after_record_trace _ _ c.in-1-eq0.is-0 c.in-1-eq0.is-1

pub returns-in-4-eq23 : goal.returns-in-4-eq23
returns-in-4-eq23 c = c.after_orders.ensures ∙ after_record_orders _ _ c.in-4-eq23.is-0 c.in-4-eq23.is-1

pub returns-in_default : goal.returns-in_default
unfolding following typed_sets
returns-in_default c =
    let next = c.next_record.ensures in
    elim c.in_default.branch [
      | in_default-via-in-0+in_default w ↦ next ∙ after_record_next _ _ line_seven (rw w.in_default.is-0 refl) w.in_default.is-1.1
      | in_default-via-in-1+in_default w ↦ next ∙ after_record_next _ _ 0 (rw w.in_default.is-0 refl) w.in_default.is-1.1
      | in_default-via-in-4+in_default w ↦ next ∙ after_record_next _ _ 23 (rw w.in_default.is-0 refl) w.in_default.is-1.1
      | in_default-via-in_default w ↦
          next ∙ after_record_next _ _ no_record (uncounted _ (λ e. omega arith) (λ e. omega arith) (λ e. omega arith)) (λ e. omega arith)
    ]
