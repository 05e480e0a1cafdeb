-- `stream_c::byte_of` meets its contract.
use mathlib.Core.Path.{◌∙◌}
use Rattle.stream_c.specs.LentLaws.{byte_least}
use Rattle.stream_c.proofs.byte_of.Goals as goal

pub returns : goal.returns
returns c = c.min.ensures ∙ byte_least c.args.n
