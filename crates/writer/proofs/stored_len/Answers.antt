-- `writer::stored_len` meets its contract.
use native.Mathlib.Omega.{arith}
use Rattle.writer.specs.WriterLaws.{width_most, flag_most, stored_len_is}
use Rattle.writer.proofs.stored_len.Goals as goal

pub overflow_add-result : goal.overflow_add-result
overflow_add-result c = omega (arith, c.width_at.ensures, width_most c.args.case c.args.j, c.from.ensures, flag_most c.ends_line.result)

pub returns : goal.returns
returns c = stored_len_is _ _ _ _ _ _ c.width_at.ensures c.ends_line.ensures c.from.ensures
