-- `host::bare` meets its contract.
use mathlib.Core.Path.{ap, ◌∙◌}
use Rattle.host.specs.Packed.{word}
use Rattle.host.proofs.bare.Goals as goal

pub returns : goal.returns
returns c = c.pack.ensures ∙ ap word c.bare_reply.ensures
