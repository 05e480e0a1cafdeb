-- `line::first_bad` meets its contract.
use Rattle.std.proofs.Common.{refl, sym, ◌∙◌, add-one}
use Rattle.line.specs.LineLaws.{first_bad_none, first_bad_next, first_bad_here, first_bad_end}
use Rattle.line.proofs.first_bad.Goals as goal

pub returns-then-all_allowed : goal.returns-then-all_allowed
returns-then-all_allowed c = rw (first_bad_none 1 c.args.s.now (sym c.all_allowed.ensures ∙ c.if-all_allowed.true)) refl

pub returns-then-not-is_allowed : goal.returns-then-not-is_allowed
returns-then-not-is_allowed c =
    let here = sym c.loop-i.invariant ∙ first_bad_here _ _ _ c.loop-i-test.true (sym c.is_allowed.ensures ∙ c.if-not-is_allowed.true) in
    rw (here, add-one) refl

pub loop-i-preserved : goal.loop-i-preserved
loop-i-preserved c = sym (first_bad_next _ _ _ c.loop-i-test.true (sym c.is_allowed.ensures ∙ c.if-not-is_allowed.false)) ∙ c.loop-i.invariant

pub returns : goal.returns
returns c = rw (sym c.loop-i.invariant ∙ first_bad_end _ _ _ c.loop-i-test.false) refl
