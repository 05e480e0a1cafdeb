-- `reader::number` meets its contract.
use mathlib.Core.Path.{sym, ◌∙◌}
use borrow.Author.Tests.{lt-ltb, le-ltb}
use Rattle.reader.specs.Reader.{stored_number}
use Rattle.reader.proofs.number.Goals as goal

pub returns-then-r-gt0 : goal.returns-then-r-gt0
unfolding stored_number
returns-then-r-gt0 c = simp (sym c.judge-r.ensures, lt-ltb _ _ c.if-r-gt0.true)

pub returns : goal.returns
unfolding stored_number
returns c = c.number_from.ensures ∙ simp (sym c.judge-r.ensures, le-ltb _ _ c.if-r-gt0.false)
