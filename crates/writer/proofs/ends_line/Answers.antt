-- `writer::ends_line` meets its contract.
use Rattle.writer.specs.WriterLaws.{ends_last, ends_none, ends_is}
use Rattle.writer.proofs.ends_line.Goals as goal

pub returns-then-j-count : goal.returns-then-j-count
returns-then-j-count c = ends_last _ _ _ c.if-j-count.true

pub returns-then-n-eq0 : goal.returns-then-n-eq0
returns-then-n-eq0 c = ends_none _ _ _ _ c.requires c.if-j-count.false c.fields_of-n.ensures c.if-n-eq0.true

pub returns : goal.returns
returns c = ends_is _ _ _ _ c.requires c.if-j-count.false c.fields_of-n.ensures
