-- `host::uff_burst` meets its contract.
use Rattle.host.specs.Packed.{word}
use Rattle.stream_c.specs.LentLaws.{burst_in}
use Rattle.host.proofs.uff_burst.Goals as goal

pub returns : goal.returns
returns c = rw c.pack.ensures (burst_in word _ _ _ _ _ _ c.burst-found.ensures)
