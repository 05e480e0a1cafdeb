use mathlib.Core.Path.{refl, sym, ◌∙◌}
use native.Mathlib.Omega.{arith}
use Rattle.text.specs.BlankLaws.{all_blank_next, all_blank_end}
use Rattle.text.proofs.is_blank.Goals as goal

pub loop-b-init : goal.loop-b-init
loop-b-init c = refl

pub loop-b-preserved : goal.loop-b-preserved
loop-b-preserved c = all_blank_next c.loop-b.blank c.args.s.now c.loop-b.b-index c.loop-b-test.true ∙ c.loop-b.invariant

pub returns : goal.returns
returns c = sym (all_blank_end c.loop-b.blank c.args.s.now c.loop-b.b-index (omega arith)) ∙ c.loop-b.invariant
