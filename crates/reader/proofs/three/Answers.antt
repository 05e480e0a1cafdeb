-- `reader::three` meets its contract.
use Rattle.std.proofs.Common.{sym, refl, ◌∙◌}
use Rattle.reader.specs.Reader.{whole}
use Rattle.reader.specs.RepliedLaws.{replied_value, replied_refusal, returned}
use Rattle.reader.proofs.three.Goals as goal

pub returns-in_err-at : goal.returns-in_err-at
returns-in_err-at c = returned _ c.from_residual.ensures.1 ∙ replied_refusal c.args.a _ _ _ (sym c.replied.ensures ∙ c.in_err-at.was)

pub returns-in_err-x : goal.returns-in_err-x
unfolding whole
returns-in_err-x c =
    let at = replied_value c.args.a (sym c.replied.ensures ∙ c.in_ok-at.was) in
    returned _ c.from_residual-in_err-x.ensures.1 ∙ rw at (replied_refusal c.args.b _ _ _ (sym c.replied-2.ensures ∙ c.in_err-x.was))

pub returns-in_err-y : goal.returns-in_err-y
unfolding whole
returns-in_err-y c =
    let at = replied_value c.args.a (sym c.replied.ensures ∙ c.in_ok-at.was) in
    let x = replied_value c.args.b (sym c.replied-2.ensures ∙ c.in_ok-x.was) in
    returned _ c.from_residual-in_err-y.ensures.1 ∙ rw (at, x) (replied_refusal c.args.c _ _ _ (sym c.replied-3.ensures ∙ c.in_err-y.was))

pub returns : goal.returns
unfolding whole
returns c =
    let at = replied_value c.args.a (sym c.replied.ensures ∙ c.in_ok-at.was) in
    let x = replied_value c.args.b (sym c.replied-2.ensures ∙ c.in_ok-x.was) in
    let y = replied_value c.args.c (sym c.replied-3.ensures ∙ c.in_ok-y.was) in
    rw (at, x, y) refl
