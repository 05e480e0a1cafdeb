-- `host::pack` meets its contract.
use mathlib.Core.Path.{refl}
use native.Mathlib.Omega.{arith}
use Rattle.host.specs.Packed.{word}
use Rattle.host.specs.PackedLaws.{column_bits_most}
use Rattle.host.proofs.pack.Goals as goal

pub overflow_mul-column : goal.overflow_mul-column
overflow_mul-column c = omega (arith, c.column_bits-column.ensures, column_bits_most c.args.r.column)

pub overflow_add-result : goal.overflow_add-result
overflow_add-result c = omega (arith, c.column_bits-column.ensures, column_bits_most c.args.r.column)

pub overflow_add-result-2 : goal.overflow_add-result-2
overflow_add-result-2 c = omega (arith, c.from.ensures, c.column_bits-column.ensures, column_bits_most c.args.r.column)

pub returns : goal.returns
unfolding word
returns c = rw (c.from.ensures, c.column_bits-column.ensures) refl
