-- `stream::open_fault` meets its contract.
use mathlib.Core.Path.{refl}
use borrow.Author.Tests.{lt-ltb, le-ltb}
use Rattle.line.specs.Line.{verdict}
use Rattle.stream.specs.Stream.{fault_of}
use Rattle.stream.proofs.open_fault.Goals as goal

pub returns-then-bad-columns : goal.returns-then-bad-columns
unfolding verdict fault_of
returns-then-bad-columns c = rw c.if-bad-columns.true refl

pub returns-then-columns-gt80 : goal.returns-then-columns-gt80
unfolding verdict fault_of
returns-then-columns-gt80 c = rw (c.if-bad-columns.false, lt-ltb _ _ c.if-columns-gt80.true) refl

pub returns-then-ended : goal.returns-then-ended
unfolding verdict fault_of
returns-then-ended c = rw (c.if-bad-columns.false, le-ltb _ _ c.if-columns-gt80.false, c.if-ended.true) refl

pub returns : goal.returns
unfolding verdict fault_of
returns c = rw (c.if-bad-columns.false, le-ltb _ _ c.if-columns-gt80.false, c.if-ended.false) refl
