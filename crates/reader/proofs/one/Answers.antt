-- `reader::one` meets its contract.
use Rattle.std.proofs.Common.{sym, refl, ◌∙◌}
use Rattle.reader.specs.Reader.{whole}
use Rattle.reader.specs.RepliedLaws.{replied_value, replied_refusal, returned}
use Rattle.reader.proofs.one.Goals as goal

pub returns-in_err-x : goal.returns-in_err-x
returns-in_err-x c = returned _ c.from_residual.ensures.1 ∙ replied_refusal c.args.a _ _ _ (sym c.replied.ensures ∙ c.in_err-x.was)

pub returns : goal.returns
unfolding whole
returns c = rw (replied_value c.args.a (sym c.replied.ensures ∙ c.in_ok-x.was)) refl
