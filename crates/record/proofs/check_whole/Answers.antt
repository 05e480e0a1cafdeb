-- `record::check_whole` meets its contract.
use mathlib.Core.Path.{refl, ◌∙◌}
use native.Mathlib.Omega.{arith}
use Rattle.record.proofs.check_whole.Goals as goal

pub check_columns-requires : goal.check_columns-requires
check_columns-requires c = (let e = c.row_numbers-numbers.ensures in omega arith, c.row_numbers-numbers.ensures.fits)

pub returns : goal.returns
returns c = c.check_columns.ensures ∙ rw c.row_numbers-numbers.ensures.listed refl
