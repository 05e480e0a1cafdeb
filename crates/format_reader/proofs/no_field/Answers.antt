-- `format_reader::no_field` meets its contract.
use mathlib.Core.Path.{refl}
use Rattle.format_reader.proofs.no_field.Goals as goal

pub returns : goal.returns
returns c = rw c.bare_reply.ensures refl
