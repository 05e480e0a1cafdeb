-- `values::exponent_size` meets its contract.
use borrow.Author.Tests.{lt-ltb, le-ltb}
use Rattle.values.specs.Scale.{size_of}
use borrow.Author.Rules.{rules}
use Rattle.values.proofs.exponent_size.Goals as goal

pub returns-then-third-lt48 : goal.returns-then-third-lt48
unfolding size_of
returns-then-third-lt48 c = rw (lt-ltb _ 48 c.if-third-lt48.true) (search rules)

pub returns : goal.returns
unfolding size_of
returns c = rw (le-ltb _ 48 c.if-third-lt48.false) (search rules)
