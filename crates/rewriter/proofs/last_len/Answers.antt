-- `rewriter::last_len` meets its contract.
use mathlib.Core.Path.{sym, ap}
use mathlib.Core.List.{[], ◌∷◌}
use lib.ListN.{length, length-append}
use Rattle.rewriter.specs.Body.{cut_text}
use Rattle.rewriter.proofs.BodyLaws.{last_stops, last_begins, cut_within}
use native.Mathlib.Omega.{arith}
use Rattle.rewriter.proofs.last_len.Goals as goal

pub returns-then-closing-at : goal.returns-then-closing-at
returns-then-closing-at c = sym (ap length (last_stops _ _ _ _ c.if-closing-at.true))

pub overflow_add-result : goal.overflow_add-result
overflow_add-result c = omega (arith, c.requires.1, cut_within c.args.file.now c.args.at c.args.most _ c.requires.0 c.cut_len.ensures)

pub returns : goal.returns
returns c =
    let args = c.args in
    let line = last_begins args.file.now args.most args.closing args.at c.if-closing-at.false in
    omega (arith, c.cut_len.ensures, ap length line, length-append (cut_text args.most args.at args.file.now) (10 ∷ []))
