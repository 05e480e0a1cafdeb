-- `host::column_bits` meets its contract.
use mathlib.Core.Path.{◌∙◌}
use Rattle.host.specs.PackedLaws.{column_bits_least}
use Rattle.host.proofs.column_bits.Goals as goal

pub returns : goal.returns
returns c = c.min.ensures ∙ column_bits_least c.args.column
