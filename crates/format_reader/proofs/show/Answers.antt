-- `format_reader::show` meets its contract.
use mathlib.Core.Path.{refl, ap, ◌∙◌}
use native.Mathlib.Omega.{arith}
use Rattle.reader.specs.Reader.{refused_by}
use Rattle.format_reader.specs.Question.{field_shown}
use Rattle.format_reader.specs.QuestionLaws.{kind_skip, kind_past, kind_real, kind_text, kind_integer}
use Rattle.format_reader.proofs.show.Goals as goal

pub returns-then-form-eq-REAL : goal.returns-then-form-eq-REAL
returns-then-form-eq-REAL c = c.show_real.ensures ∙ rw (kind_real _ c.if-form-eq-REAL.true) refl

pub returns-then-form-eq-SKIP : goal.returns-then-form-eq-SKIP
unfolding field_shown
returns-then-form-eq-SKIP c = ap refused_by c.no_field.ensures ∙ rw (kind_skip _ c.if-form-eq-SKIP.true) refl

pub returns-then-form-gt-LAST_FORM : goal.returns-then-form-gt-LAST_FORM
unfolding field_shown
returns-then-form-gt-LAST_FORM c = ap refused_by c.no_field-then-form-gt-LAST_FORM.ensures ∙ rw (kind_past _ c.if-form-gt-LAST_FORM.true) refl

pub returns-then-form-lt-INTEGER : goal.returns-then-form-lt-INTEGER
unfolding field_shown
returns-then-form-lt-INTEGER c = rw (kind_text _ c.if-form-eq-SKIP.false (omega arith)) refl

pub returns : goal.returns
unfolding field_shown
returns c = rw (kind_integer c.args.form (omega arith) (omega arith)) refl
