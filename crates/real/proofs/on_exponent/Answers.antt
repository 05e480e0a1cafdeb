-- `real::on_exponent` meets its contract.
use Rattle.real.specs.Real.{on_exponent}
use borrow.Author.Tests.{le-ltb, lt-ltb}
use Rattle.real.proofs.on_exponent.Goals as goal

pub returns-then-s-lt5 : goal.returns-then-s-lt5
unfolding on_exponent
returns-then-s-lt5 c = simp (c.malformed.ensures, lt-ltb _ _ c.if-s-lt5.true)

pub returns-then-s-lt8 : goal.returns-then-s-lt8
unfolding on_exponent
returns-then-s-lt8 c = simp (c.exponent_digit.ensures, lt-ltb _ _ c.if-s-lt8.true, le-ltb _ _ c.if-s-lt5.false)

pub returns-then-s-lt10 : goal.returns-then-s-lt10
unfolding on_exponent
returns-then-s-lt10 c = simp (c.malformed-then-s-lt10.ensures, lt-ltb _ _ c.if-s-lt10.true, le-ltb _ _ c.if-s-lt8.false, le-ltb _ _ c.if-s-lt5.false)

pub returns-then-s-lt12 : goal.returns-then-s-lt12
unfolding on_exponent
returns-then-s-lt12 c =
    simp (c.exponent_digit-then-s-lt12.ensures, lt-ltb _ _ c.if-s-lt12.true, le-ltb _ _ c.if-s-lt10.false, le-ltb _ _ c.if-s-lt8.false, le-ltb _ _ c.if-s-lt5.false)

pub returns : goal.returns
unfolding on_exponent
returns c =
    simp (c.exponent_digit-2.ensures, le-ltb _ _ c.if-s-lt12.false, le-ltb _ _ c.if-s-lt10.false, le-ltb _ _ c.if-s-lt8.false, le-ltb _ _ c.if-s-lt5.false)
