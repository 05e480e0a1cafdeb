-- `parts::shown_len` meets its contract.
use Rattle.parts.specs.ShownLaws.{shown_least}
use Rattle.parts.proofs.shown_len.Goals as goal

pub returns : goal.returns
returns c = shown_least _ _ _ c.columns_len.ensures c.min.ensures
