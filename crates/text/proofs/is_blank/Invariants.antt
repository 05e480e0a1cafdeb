-- `text::is_blank` meets its contract.
use mathlib.Core.Path.{◌≡◌}
use mathlib.Core.Bool.{◌&&◌}
use lib.ListN.{drop}
use Rattle.text.specs.Blank.{all_blank}
use Rattle.text.proofs.is_blank.Given as goal

-- what is found in the first bytes and the bytes left say together whether all are blank
abbrev pub invariant-loop-b : goal.invariant-loop-b
invariant-loop-b l = l.blank && all_blank (drop l.b-index l.s) ≡ all_blank l.s
