-- `stream::step` meets its contract.
use Rattle.std.proofs.Common.{⊎_elim}
use Rattle.stream.specs.StreamLaws.{stepped_ended, stepped_past, stepped_refused, stepped_going, bounds, room}
use native.Mathlib.Omega.{arith}
use Rattle.stream.proofs.step.Goals as goal

pub returns-then-c : goal.returns-then-c
returns-then-c c = stepped_ended c.args.c c.args.burst.now c.if-c.true

pub returns-then-total-gt16777216 : goal.returns-then-total-gt16777216
returns-then-total-gt16777216 c =
    let args = c.args in
    let running = c.running-total.ensures in
    ⊎_elim
    (λ beyond. stepped_past args.c args.burst.now c.if-c.false _ running _ beyond c.at_total.ensures)
    (λ (within, number). stepped_refused args.c args.burst.now c.if-c.false _ running within _ number c.at_total.ensures)
    c.then-total-gt16777216.either

pub open_step-requires : goal.open_step-requires
open_step-requires c =
    let args = c.args in
    let run = c.running-total in
    let within = c.if-total-gt16777216.false in
    let asked = c.if-c.false in
    (bounds args.c args.burst.now asked run.result run.ensures within, room args.c args.burst.now asked run.result run.ensures within, within, omega (arith, c.if-c-gt0.false), asked)

pub returns : goal.returns
returns c =
    let args = c.args in
    let running = c.running-total.ensures in
    let within = c.if-total-gt16777216.false in
    let done = c.open_step.ensures in
    stepped_going args.c args.burst.now c.if-c.false _ running within _ (omega (arith, c.if-c-gt0.false)) done.0 done.1
