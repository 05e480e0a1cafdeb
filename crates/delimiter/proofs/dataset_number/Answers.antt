-- `delimiter::dataset_number` meets its contract.
use mathlib.Core.Path.{sym, ap, ◌∙◌}
use native.Mathlib.Omega.{arith}
use lib.Seq.{length-take-le}
use Rattle.laws.specs.Choice.{above_zero}
use Rattle.text.proofs.TextLaws.{trimmed_most}
use Rattle.delimiter.proofs.KindLaws.{dataset_number_six, dataset_number_other}
use Rattle.delimiter.proofs.dataset_number.Goals as goal

pub slice_bounds-integer_field-end : goal.slice_bounds-integer_field-end
slice_bounds-integer_field-end c = sym (length-take-le _ _ (rw c.text_len-past.ensures (trimmed_most _)))

pub returns-then-past-eq6 : goal.returns-then-past-eq6
returns-then-past-eq6 c = c.positive-number.ensures ∙ ap above_zero (rw c.integer_field.ensures (dataset_number_six _ _ c.text_len-past.ensures c.if-past-eq6.true))

pub returns : goal.returns
returns c = ap above_zero (dataset_number_other _ _ c.text_len-past.ensures (omega arith) c.if-past-eq6.false)
