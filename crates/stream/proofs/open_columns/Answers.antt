-- `stream::open_columns` meets its contract.
use mathlib.Core.Path.{refl, sym}
use Rattle.stream.specs.Stream.{columns_of}
use Rattle.stream.specs.OpenLineLaws.{columns_of_none}
use Rattle.stream.proofs.open_columns.Goals as goal

pub returns-then-held-eq0 : goal.returns-then-held-eq0
returns-then-held-eq0 c = rw c.if-held-eq0.true (sym (columns_of_none _ _))

pub returns-then-ended-last : goal.returns-then-ended-last
unfolding columns_of
returns-then-ended-last c = rw c.if-ended-last.true refl

pub returns : goal.returns
unfolding columns_of
returns c = rw c.if-ended-last.false refl
