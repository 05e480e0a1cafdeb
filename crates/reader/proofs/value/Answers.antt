-- `reader::value` meets its contract.
use mathlib.Core.Path.{sym, ◌∙◌}
use borrow.Author.Tests.{lt-ltb, le-ltb}
use Rattle.reader.specs.Reader.{value_of}
use Rattle.reader.proofs.value.Goals as goal

pub returns-then-r-gt0 : goal.returns-then-r-gt0
unfolding value_of
returns-then-r-gt0 c = simp (sym c.judge-r.ensures, lt-ltb _ _ c.if-r-gt0.true)

pub returns : goal.returns
unfolding value_of
returns c = c.value_from.ensures ∙ simp (sym c.judge-r.ensures, le-ltb _ _ c.if-r-gt0.false)
