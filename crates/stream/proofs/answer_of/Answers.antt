-- `stream::answer_of` meets its contract.
use mathlib.Core.Path.{refl, sym, ◌∙◌}
use Rattle.stream.specs.Stream.{answer_of}
use Rattle.stream.specs.StreamLaws.{past_not, seen_past, seen_going, seen_refused}
use native.Mathlib.Omega.{arith}
use Rattle.stream.proofs.answer_of.Goals as goal

pub returns-then-c : goal.returns-then-c
unfolding answer_of
returns-then-c c = rw (c.bare_reply.ensures, c.if-c.true) refl

pub returns-then-is_past : goal.returns-then-is_past
unfolding answer_of
returns-then-is_past c = rw (c.bare_reply-then-is_past.ensures, seen_past c.args.c (sym c.is_past.ensures ∙ c.if-is_past.true), c.if-c.false) refl

pub overflow_add-c : goal.overflow_add-c
overflow_add-c c = omega (arith, past_not c.args.c (sym c.is_past.ensures ∙ c.if-is_past.false))

pub returns-then-c-gt0 : goal.returns-then-c-gt0
unfolding answer_of
returns-then-c-gt0 c =
    let refused = seen_refused c.args.c (sym c.is_past.ensures ∙ c.if-is_past.false) c.if-c-gt0.true in
    rw (c.reply_at.ensures, refused, c.if-c.false) refl

pub returns : goal.returns
unfolding answer_of
returns c = rw (seen_going c.args.c (sym c.is_past.ensures ∙ c.if-is_past.false) (omega arith), c.if-c.false) refl
