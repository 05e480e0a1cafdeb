-- `reader::read_at` meets its contract.
use mathlib.Core.Path.{refl, ◌∙◌}
use Rattle.reader.specs.Find.{read_at}
use Rattle.reader.specs.SpanLaws.{span_ordered}
use Rattle.reader.proofs.read_at.Goals as goal

pub read_in-requires : goal.read_in-requires
read_in-requires c = rw c.span_of-s.ensures (span_ordered _ _ _)

pub returns : goal.returns
unfolding read_at
returns c = c.read_of.ensures ∙ rw (c.read_in.ensures, c.span_of-s.ensures) refl
