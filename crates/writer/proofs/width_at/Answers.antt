-- `writer::width_at` meets its contract.
use Rattle.writer.specs.WriterLaws.{width_none, width_is}
use Rattle.writer.proofs.width_at.Goals as goal

pub returns-then-n-eq0 : goal.returns-then-n-eq0
returns-then-n-eq0 c = width_none _ _ _ c.fields_of-n.ensures c.if-n-eq0.true

pub returns : goal.returns
returns c = width_is _ _ _ c.fields_of-n.ensures _ c.field_width.ensures
