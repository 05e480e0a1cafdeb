use Rattle.std.proofs.Common.{refl, sym, ◌∙◌, add-one, arith}
use Rattle.record.specs.CheckLaws.{first_byte_next, first_byte_here, first_byte_end, first_byte_blank}
use Rattle.record.proofs.first_byte.Goals as goal

pub returns-then-is_blank : goal.returns-then-is_blank
returns-then-is_blank c = rw (first_byte_blank _ _ (sym c.is_blank.ensures ∙ c.if-is_blank.true)) refl

pub returns-then-line-i-ne32 : goal.returns-then-line-i-ne32
returns-then-line-i-ne32 c = rw (sym c.loop-i.invariant ∙ first_byte_here _ _ _ c.loop-i-test.true (omega arith) c.if-line-i-ne32.true, add-one) refl

pub loop-i-preserved : goal.loop-i-preserved
loop-i-preserved c = sym (first_byte_next _ _ _ c.loop-i-test.true (omega arith) c.if-line-i-ne32.false) ∙ c.loop-i.invariant

pub returns : goal.returns
returns c = rw (sym c.loop-i.invariant ∙ first_byte_end _ _ _ c.loop-i-test.false) refl
