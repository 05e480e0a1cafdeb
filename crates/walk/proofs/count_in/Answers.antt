-- `walk::count_in` meets its contract.
use Rattle.record.specs.Declares.{count_in}
use Rattle.walk.proofs.count_in.Goals as goal

pub returns : goal.returns
unfolding count_in
returns c = c.number_in.ensures
