use mathlib.Core.Path.{refl, sym, ◌∙◌}
use Rattle.line.specs.LineLaws.{line_len_within}
use Rattle.parts.specs.MarkLaws.{mark_here, mark_none, mark_past, after_none, after_line}
use borrow.Author.Rules.{rules}
use Rattle.parts.proofs.find_delimiter.Goals as goal

pub loop-end-init : goal.loop-end-init
loop-end-init c =
    record {
      within = search rules;
      ends = c.find_end-end.ensures;
      inside = rw c.find_end-end.ensures (line_len_within _ _ (search rules));
      few = search rules;
      same = refl;
    }

pub returns-then-is_delimiter_line : goal.returns-then-is_delimiter_line
returns-then-is_delimiter_line c =
    let file = c.args.file.now in
    let inv = c.loop-end.invariant in
    let more = c.loop-end-test.true in
    mark_here file _ _ _ inv.within inv.ends (sym c.is_delimiter_line.ensures ∙ c.if-is_delimiter_line.true) more ∙ inv.same

pub returns-then-file-stop : goal.returns-then-file-stop
returns-then-file-stop c =
    let file = c.args.file.now in
    let inv = c.loop-end.invariant in
    let unmarked = sym c.is_delimiter_line.ensures ∙ c.if-is_delimiter_line.false in
    let past = mark_past file _ _ _ _ inv.within inv.ends unmarked c.past_quiet-passed.ensures in
    after_none file _ _ (rw c.find_end-stop.ensures at c.if-file-stop.true) ∙ past ∙ inv.same

pub loop-end-preserved : goal.loop-end-preserved
loop-end-preserved c =
    let file = c.args.file.now in
    let inv = c.loop-end.invariant in
    let unmarked = sym c.is_delimiter_line.ensures ∙ c.if-is_delimiter_line.false in
    let past = mark_past file _ _ _ _ inv.within inv.ends unmarked c.past_quiet-passed.ensures in
    record {
      within = search rules;
      ends = c.find_end-end-in-loop-end.ensures;
      inside = rw c.find_end-end-in-loop-end.ensures (line_len_within _ _ (search rules));
      few = search rules;
      same = after_line file _ _ _ c.find_end-stop.ensures ∙ past ∙ inv.same;
    }

pub returns : goal.returns
returns c =
    let file = c.args.file.now in
    let inv = c.loop-end.invariant in
    mark_none file _ _ _ inv.within inv.ends c.loop-end-test.false ∙ inv.same
