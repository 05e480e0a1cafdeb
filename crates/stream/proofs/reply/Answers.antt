-- `stream::reply` meets its contract.
use mathlib.Core.Path.{refl, sym, ◌∙◌}
use Rattle.line.specs.LineLaws.{verdict_err, verdict_ok}
use Rattle.stream.specs.StreamLaws.{open_refused, past_not, seen_past, seen_refused, end_none, end_some}
use native.Mathlib.Omega.{arith}
use Rattle.stream.proofs.reply.Goals as goal

pub returns-then-is_past : goal.returns-then-is_past
returns-then-is_past c = rw (c.bare_reply.ensures, seen_past c.args.c (sym c.is_past.ensures ∙ c.if-is_past.true)) refl

pub overflow_add-c : goal.overflow_add-c
overflow_add-c c = omega (arith, past_not _ (sym c.is_past.ensures ∙ c.if-is_past.false))

pub returns-then-c-gt0 : goal.returns-then-c-gt0
returns-then-c-gt0 c = rw (c.reply_at.ensures, seen_refused c.args.c (sym c.is_past.ensures ∙ c.if-is_past.false) c.if-c-gt0.true) refl

pub finish-requires : goal.finish-requires
finish-requires c = omega (arith, past_not _ (sym c.is_past.ensures ∙ c.if-is_past.false))

pub returns-then-c-eq0 : goal.returns-then-c-eq0
returns-then-c-eq0 c =
    let inside = sym c.is_past.ensures ∙ c.if-is_past.false in
    c.finish.ensures ∙ end_none c.args.c inside (omega (arith, c.if-c-gt0.false)) c.if-c-eq0.true

pub overflow_add-c-2 : goal.overflow_add-c-2
overflow_add-c-2 c = omega (arith, past_not _ (sym c.is_past.ensures ∙ c.if-is_past.false))

pub returns : goal.returns
returns c =
    let inside = sym c.is_past.ensures ∙ c.if-is_past.false in
    let told = verdict_err _ _ (sym c.in-Err.is ∙ c.open_fault.ensures) in
    c.reply_at-2.ensures ∙ end_some c.args.c inside (omega (arith, c.if-c-gt0.false)) c.if-c-eq0.false _ told.0

pub unreachable-requires : goal.unreachable-requires
unreachable-requires c = open_refused _ _ (sym c.in_default.is ∙ c.open_fault.ensures)
