-- `reader::two` meets its contract.
use Rattle.std.proofs.Common.{sym, refl, ◌∙◌}
use Rattle.reader.specs.Reader.{whole}
use Rattle.reader.specs.RepliedLaws.{replied_value, replied_refusal, returned}
use Rattle.reader.proofs.two.Goals as goal

pub returns-in_err-x : goal.returns-in_err-x
returns-in_err-x c = returned _ c.from_residual.ensures.1 ∙ replied_refusal c.args.a _ _ _ (sym c.replied.ensures ∙ c.in_err-x.was)

pub returns-in_err-y : goal.returns-in_err-y
unfolding whole
returns-in_err-y c =
    let x = replied_value c.args.a (sym c.replied.ensures ∙ c.in_ok-x.was) in
    returned _ c.from_residual-in_err-y.ensures.1 ∙ rw x (replied_refusal c.args.b _ _ _ (sym c.replied-2.ensures ∙ c.in_err-y.was))

pub returns-then-uneven : goal.returns-then-uneven
unfolding whole
returns-then-uneven c =
    let x = replied_value c.args.a (sym c.replied.ensures ∙ c.in_ok-x.was) in
    let y = replied_value c.args.b (sym c.replied-2.ensures ∙ c.in_ok-y.was) in
    rw (x, y, c.if-uneven.true) refl

pub returns : goal.returns
unfolding whole
returns c =
    let x = replied_value c.args.a (sym c.replied.ensures ∙ c.in_ok-x.was) in
    let y = replied_value c.args.b (sym c.replied-2.ensures ∙ c.in_ok-y.was) in
    rw (x, y, c.if-uneven.false) refl
