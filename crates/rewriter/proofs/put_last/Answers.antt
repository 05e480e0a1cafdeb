-- `rewriter::put_last` meets its contract.
use mathlib.Core.Path.{◌≡◌, sym}
use mathlib.Core.List.{[]}
use Rattle.output.specs.OutputLaws.{placed_none}
use Rattle.rewriter.specs.Body.{last_text}
use Rattle.rewriter.proofs.BodyLaws.{last_stops, last_begins, cut_within, cut_part}
use borrow.Author.Rules.{rules}
use native.Mathlib.Omega.{arith}
use Rattle.rewriter.proofs.put_last.Goals as goal

pub returns-then-closing-line : goal.returns-then-closing-line
returns-then-closing-line c =
    let args = c.args in
    let none : last_text args.most args.closing args.line args.file.now ≡ [] = last_stops _ _ _ _ c.if-closing-line.true in
    (rw none (omega arith), rw none (sym (placed_none _ _)))

pub overflow_add-past : goal.overflow_add-past
overflow_add-past c =
    let within = cut_within c.args.file.now c.args.line c.args.most _ c.requires.0 c.cut_len.ensures in
    search rules

pub slice_bounds-put_line-end : goal.slice_bounds-put_line-end
slice_bounds-put_line-end c =
    let within = cut_within c.args.file.now c.args.line c.args.most _ c.requires.0 c.cut_len.ensures in
    search rules

pub put_line-requires : goal.put_line-requires
put_line-requires c =
    let args = c.args in
    let line = last_begins args.file.now args.most args.closing args.line c.if-closing-line.false in
    let part = cut_part args.file.now args.line args.most _ c.requires.0 c.cut_len.ensures in
    rw part (rw line at c.requires.1)

pub returns : goal.returns
returns c =
    let args = c.args in
    let line = last_begins args.file.now args.most args.closing args.line c.if-closing-line.false in
    let part = cut_part args.file.now args.line args.most _ c.requires.0 c.cut_len.ensures in
    let done = c.put_line.ensures in
    (rw line (rw part at done.0), rw line (rw part at done.1))
