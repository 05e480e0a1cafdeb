-- `output::put_line` meets its contract.
use mathlib.Core.List.{[], ◌∷◌}
use native.Mathlib.Omega.{arith}
use lib.ListN.{length-append}
use Rattle.output.specs.OutputLaws.{placed_line}
use Rattle.output.proofs.put_line.Goals as goal

pub put_text-past-requires : goal.put_text-past-requires
put_text-past-requires c = omega (arith, c.requires, length-append c.args.s.now (10 ∷ []))

pub bounds-out-past : goal.bounds-out-past
bounds-out-past c = omega (arith, c.put_text-past.ensures.0, c.requires, length-append c.args.s.now (10 ∷ []))

pub returns : goal.returns
returns c = placed_line _ _ _ _ _ c.requires c.put_text-past.ensures.0 c.put_text-past.ensures.1
