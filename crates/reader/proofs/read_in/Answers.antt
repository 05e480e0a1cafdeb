-- `reader::read_in` meets its contract.
use mathlib.Core.Path.{◌∙◌}
use borrow.Author.Tests.{lt-leb, le-leb}
use Rattle.reader.specs.Reader.{read_in}
use Rattle.reader.proofs.read_in.Goals as goal

pub returns-then-file-past : goal.returns-then-file-past
unfolding read_in
returns-then-file-past c = simp (lt-leb _ _ c.if-file-past.true)

pub returns : goal.returns
unfolding read_in
returns c = c.real_field.ensures ∙ simp (le-leb _ _ c.if-file-past.false)
