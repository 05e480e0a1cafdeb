-- `reader::number_from` meets its contract.
use mathlib.Core.Path.{sym, ap, ◌∙◌}
use Prim.Native.Nat.{◌≤◌, ◌*◌}
use Rattle.reader.specs.Reader.{refused_by, shown_of}
use Rattle.reader.specs.SpanLaws.{span_ordered}
use Rattle.reader.specs.ReaderLaws.{start_most, no_data_number, data_inside, number_none, number_shown_lem}
use borrow.Author.Rules.{rules}
use Rattle.reader.proofs.number_from.Goals as goal

pub overflow_mul-stored : goal.overflow_mul-stored
overflow_mul-stored c =
    let few = (data_inside _ _ _ (sym c.in-Some.is ∙ c.find_data.ensures)).1 in
    let h : c.in-Some.d.count * c.numbers_of.result ≤ c.in-Some.d.count * 3 = start_most _ _ _ few c.numbers_of.ensures in search rules

pub returns-in_default : goal.returns-in_default
returns-in_default c = ap refused_by c.bare_reply.ensures ∙ no_data_number _ _ (sym c.in_default.is ∙ c.find_data.ensures) _

pub returns-then-stored-j : goal.returns-then-stored-j
returns-then-stored-j c = ap refused_by c.bare_reply-then-stored-j.ensures ∙ number_none _ _ _ (sym c.in-Some.is ∙ c.find_data.ensures) _ _ c.numbers_of.ensures c.if-stored-j.true

pub span_of-s-requires : goal.span_of-s-requires
span_of-s-requires c = let h = data_inside _ _ _ (sym c.in-Some.is ∙ c.find_data.ensures) in (h.0, (h.1, search rules))

pub read_in-requires : goal.read_in-requires
read_in-requires c = rw c.span_of-s.ensures (span_ordered _ _ _)

pub returns : goal.returns
returns c =
    let found = sym c.in-Some.is ∙ c.find_data.ensures in
    let numbers = c.numbers_of.ensures in
    let span = c.span_of-s.ensures in
    let read = c.read_in.ensures in
    ap (shown_of _ _) (sym c.in-Ok.is) ∙ number_shown_lem _ _ _ found _ _ _ _ numbers c.if-stored-j.false span read

pub returns-in_default-read_in : goal.returns-in_default-read_in
returns-in_default-read_in c =
    let found = sym c.in-Some.is ∙ c.find_data.ensures in
    let numbers = c.numbers_of.ensures in
    let span = c.span_of-s.ensures in
    let read = c.read_in.ensures in
    ap refused_by c.bare_reply-in_default-read_in.ensures ∙ ap (shown_of _ _) (sym c.in_default-read_in.is) ∙ number_shown_lem _ _ _ found _ _ _ _ numbers c.if-stored-j.false span read
