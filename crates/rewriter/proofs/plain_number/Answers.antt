use mathlib.Core.Path.{refl, ◌∙◌}
use lib.ListN.{replicate, length-set}
use Rattle.rewriter.proofs.PutLaws.{plain_next, plain_start, plain_done}
use borrow.Author.Rules.{rules}
use Rattle.rewriter.proofs.plain_number.Goals as goal

pub loop-i-init : goal.loop-i-init
loop-i-init c = record { wide = refl; spelled = plain_start _ (replicate 6 32) refl }

pub loop-i-preserved : goal.loop-i-preserved
loop-i-preserved c =
    let inv = c.loop-i.invariant in
    record {
      wide = simp length-set inv.wide;
      spelled = rw c.digit_or_blank.ensures (plain_next _ _ _ c.loop-i-test.true (search rules)) ∙ inv.spelled;
    }

pub returns : goal.returns
returns c = plain_done _ _ _ c.loop-i-test.false ∙ c.loop-i.invariant.spelled
