-- `format_reader::count_of` meets its contract.
use mathlib.Core.Path.{refl, sym}
use native.Mathlib.Omega.{arith}
use Rattle.format_reader.specs.Question.{counts}
use Rattle.format_reader.specs.QuestionLaws.{kind_skip, kind_past, counts_field}
use Rattle.format_reader.proofs.count_of.Goals as goal

pub returns-then-form-eq-SKIP : goal.returns-then-form-eq-SKIP
unfolding counts
returns-then-form-eq-SKIP c = rw (kind_skip _ c.if-form-eq-SKIP.true) refl

pub returns-then-form-gt-LAST_FORM : goal.returns-then-form-gt-LAST_FORM
unfolding counts
returns-then-form-gt-LAST_FORM c = rw (kind_past _ c.if-form-gt-LAST_FORM.true) refl

pub returns : goal.returns
returns c = sym (counts_field _ c.if-form-eq-SKIP.false (omega arith))
