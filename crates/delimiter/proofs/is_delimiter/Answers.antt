-- `delimiter::is_delimiter` meets its contract.
use mathlib.Core.Path.{sym, ◌∙◌}
use borrow.Author.Tests.{eq-eqb, ne_eqb}
use Rattle.laws.specs.CutLaws.{tail_part}
use Rattle.delimiter.proofs.KindLaws.{is_delimiter_columns}
use Rattle.delimiter.proofs.is_delimiter.Goals as goal

pub returns-then-not-is_blank : goal.returns-then-not-is_blank
returns-then-not-is_blank c = simp (is_delimiter_columns, sym c.is_blank.ensures ∙ c.if-not-is_blank.true)

pub returns-then-columns-ne45 : goal.returns-then-columns-ne45
returns-then-columns-ne45 c =
    simp (
      is_delimiter_columns,
      sym c.is_blank.ensures ∙ c.if-not-is_blank.false,
      ne_eqb _ _ c.if-columns-ne45.true,
    )

pub returns-then-columns-ne49 : goal.returns-then-columns-ne49
returns-then-columns-ne49 c =
    simp (
      is_delimiter_columns,
      sym c.is_blank.ensures ∙ c.if-not-is_blank.false,
      eq-eqb _ _ c.if-columns-ne45.false,
      ne_eqb _ _ c.if-columns-ne49.true,
    )

pub returns : goal.returns
returns c =
    simp (
      is_delimiter_columns,
      sym c.is_blank.ensures ∙ c.if-not-is_blank.false,
      eq-eqb _ _ c.if-columns-ne45.false,
      eq-eqb _ _ c.if-columns-ne49.false,
    )
    (simp tail_part at c.is_blank-2.ensures)
