-- `stream::open_step` meets its contract.
use mathlib.Core.Path.{◌≡◌, sym, ◌∙◌}
use mathlib.Core.List.{List}
use Prim.Native.Nat.{ℕ}
use lib.ListN.{length-take}
use lib.Seq.{length-take-le}
use Rattle.laws.specs.Cut.{line_len}
use Rattle.line.specs.LineLaws.{line_len_most}
use Rattle.stream.specs.StreamLaws.{burst_still, burst_next, burst_stops, burst_still_whole, burst_next_whole, burst_stops_whole}
use native.Mathlib.Omega.{arith}
use Rattle.stream.proofs.open_step.Goals as goal

pub slice_bounds-part-end : goal.slice_bounds-part-end
slice_bounds-part-end c = sym (length-take-le _ _ (omega (arith, c.find_end-end.ensures, line_len_most c.args.burst.now)))

pub bad_column-column-requires : goal.bad_column-column-requires
bad_column-column-requires c = omega (arith, c.requires, length-take c.find_end-end.result c.args.burst.now)

pub overflow_add-held : goal.overflow_add-held
overflow_add-held c = omega (arith, c.requires, c.find_end-end.ensures, line_len_most c.args.burst.now)

pub returns-then-burst-end : goal.returns-then-burst-end
returns-then-burst-end c =
    let burst : List ℕ = c.args.burst.now in
    let pre = c.requires in
    let ends : c.find_end-end.result ≡ line_len burst = omega (arith, c.find_end-end.ensures) in
    let found = c.bad_column-column.ensures in
    rw (pre.3, pre.4) (
      burst_still c.args.c burst c.args.total pre.0 pre.1 pre.2 _ ends _ _ c.push.ensures found c.if-burst-end.true,
      burst_still_whole c.args.c burst c.args.total pre.0 pre.1 pre.2 _ ends _ _ c.push.ensures found c.if-burst-end.true,
    )

pub returns-in-Ok : goal.returns-in-Ok
returns-in-Ok c =
    let burst : List ℕ = c.args.burst.now in
    let pre = c.requires in
    let ends : c.find_end-end.result ≡ line_len burst = omega (arith, c.find_end-end.ensures) in
    let found = c.bad_column-column.ensures in
    let outcome = sym c.open_outcome.ensures ∙ c.in-Ok.is in
    let next = burst_next c.args.c burst c.args.total pre.0 pre.1 pre.2 _ ends _ _ c.push.ensures found c.if-burst-end.false _ outcome in
    let whole = burst_next_whole c.args.c burst c.args.total pre.0 pre.1 pre.2 _ ends _ _ c.push.ensures found c.if-burst-end.false _ outcome in
    (c.lines_step.ensures.0 ∙ next, c.lines_step.ensures.1 ∙ whole)

pub returns-in-Err : goal.returns-in-Err
returns-in-Err c =
    let burst : List ℕ = c.args.burst.now in
    let pre = c.requires in
    let ends : c.find_end-end.result ≡ line_len burst = omega (arith, c.find_end-end.ensures) in
    let found = c.bad_column-column.ensures in
    let outcome = sym c.open_outcome.ensures ∙ c.in-Err.is in (
      burst_stops c.args.c burst c.args.total pre.0 pre.1 pre.2 _ ends _ _ c.push.ensures found c.if-burst-end.false _ outcome,
      burst_stops_whole c.args.c burst c.args.total pre.0 pre.1 pre.2 _ ends _ _ c.push.ensures found c.if-burst-end.false _ outcome,
    )
