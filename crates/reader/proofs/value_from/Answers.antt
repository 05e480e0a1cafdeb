-- `reader::value_from` meets its contract.
use mathlib.Core.Path.{sym, ◌∙◌, ap}
use Rattle.reader.specs.ReaderLaws.{no_data_value, data_inside, value_none, value_shown}
use Rattle.reader.specs.Reader.{refused_by}
use Rattle.reader.proofs.value_from.Goals as goal

pub returns-in_default : goal.returns-in_default
returns-in_default c = ap refused_by c.bare_reply.ensures ∙ no_data_value _ _ (sym c.in_default.is ∙ c.find_data.ensures) _

pub returns-then-d-index : goal.returns-then-d-index
returns-then-d-index c = ap refused_by c.bare_reply-then-d-index.ensures ∙ value_none _ _ _ (sym c.in-Some.is ∙ c.find_data.ensures) _ c.if-d-index.true

pub value_at-requires : goal.value_at-requires
value_at-requires c = data_inside _ _ _ (sym c.in-Some.is ∙ c.find_data.ensures)

pub returns : goal.returns
returns c = c.value_at.ensures ∙ value_shown _ _ _ (sym c.in-Some.is ∙ c.find_data.ensures) _ c.if-d-index.false
