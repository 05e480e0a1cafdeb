-- `walk::list_fields` meets its contract.
use mathlib.Core.Path.{refl, sym, ◌∙◌}
use native.Mathlib.Omega.{arith}
use Rattle.record_table.specs.Records.{record_of, records}
use Rattle.record_table.specs.TypedSets.{typed_sets, following}
use Rattle.walk.specs.Due.{list_row}
use Rattle.walk.specs.DueLaws.{data_row_length, following_none}
use Rattle.walk.proofs.list_fields.Goals as goal

pub returns-in-0 : goal.returns-in-0
unfolding list_row following typed_sets
returns-in-0 c = c.fields_of.ensures ∙ rw c.in-0.is (sym (data_row_length _))

pub returns-in-1 : goal.returns-in-1
unfolding list_row following typed_sets record_of records
returns-in-1 c = rw c.in-1.is refl

pub returns-in-4 : goal.returns-in-4
unfolding list_row following typed_sets record_of records
returns-in-4 c = rw c.in-4.is refl

pub returns-in_default : goal.returns-in_default
unfolding list_row record_of records
returns-in_default c = rw (following_none c.args.d.kind (λ e. omega arith) (λ e. omega arith) (λ e. omega arith)) refl
