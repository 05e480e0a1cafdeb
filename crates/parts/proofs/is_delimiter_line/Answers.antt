-- `parts::is_delimiter_line` meets its contract.
use mathlib.Core.Path.{sym, ◌∙◌}
use borrow.Author.Tests.{eq-eqb, ne_eqb}
use Rattle.parts.specs.ShownLaws.{closes_short, closes_shown}
use Rattle.parts.proofs.is_delimiter_line.Goals as goal

pub returns-then-n-lt6 : goal.returns-then-n-lt6
returns-then-n-lt6 c = closes_short _ _ c.shown_len-n.ensures.0 c.if-n-lt6.true

pub returns-then-line-ne45 : goal.returns-then-line-ne45
returns-then-line-ne45 c = simp (closes_shown _ _ c.shown_len-n.ensures.0 c.if-n-lt6.false, ne_eqb _ _ c.if-line-ne45.true)

pub returns-then-line-ne49 : goal.returns-then-line-ne49
returns-then-line-ne49 c =
    simp (
      closes_shown _ _ c.shown_len-n.ensures.0 c.if-n-lt6.false,
      eq-eqb _ _ c.if-line-ne45.false,
      ne_eqb _ _ c.if-line-ne49.true,
    )

pub returns-then-not-is_blank : goal.returns-then-not-is_blank
returns-then-not-is_blank c =
    simp (
      closes_shown _ _ c.shown_len-n.ensures.0 c.if-n-lt6.false,
      eq-eqb _ _ c.if-line-ne45.false,
      eq-eqb _ _ c.if-line-ne49.false,
      sym c.is_blank.ensures ∙ c.if-not-is_blank.true,
    )

pub returns : goal.returns
returns c =
    simp (
      closes_shown _ _ c.shown_len-n.ensures.0 c.if-n-lt6.false,
      eq-eqb _ _ c.if-line-ne45.false,
      eq-eqb _ _ c.if-line-ne49.false,
      sym c.is_blank.ensures ∙ c.if-not-is_blank.false,
    )
    c.is_blank-2.ensures
