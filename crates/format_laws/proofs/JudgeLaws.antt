-- The question and the judge on one line, in its place in a file.
use Rattle.std.specs.Prelude.{◌≡◌, Bool, false, List, length, get_or}
use Rattle.std.proofs.Math.Path.{refl}
use Rattle.std.proofs.Common.{sym, ap, ◌∙◌, inl, inr, arith}
use Rattle.std.proofs.Math.Bool.{true}
use Prim.Native.Nat.{ℕ, zero, suc, ◌<◌}
use borrow.Author.Tests.{lt-ltb, le-ltb}
use Rattle.line.specs.Line.{refusal, columns, line_fault, filled}
use Rattle.line.specs.declared.Refusal.{Refusal}
use Rattle.delimiter.specs.Kind.{Delimiter, is_delimiter}
use Rattle.delimiter.proofs.KindLaws.{is_delimiter_sound}
use Rattle.field.specs.Item.{Item}
use Rattle.record_table.specs.Row.{Field, Row}
use Rattle.record.specs.Check.{or_else, otherwise, fields_refusal, items_of, taken, taken_refusal, row_refusal}
use Rattle.record.specs.CheckLaws.{or_else_passed}
use Rattle.walk.specs.Due.{row_due, after}
use Rattle.walk.specs.Step.{state, unless, typed_step, step_of}
use Rattle.walk.specs.declared.Place.TheVariants.{Typed}
use Rattle.walk.specs.declared.State.{State}
use Rattle.std.specs.Prelude.{Ok, Err}
use Rattle.judge.specs.Judge.{at_line, line_outcome, line_step}
use Rattle.reader.specs.Reader.{Said, refused_by}
use Rattle.format_reader.specs.Unruled.{unruled_refusal}
use Rattle.format_reader.specs.Question.{Seen, shown_from, line_first, field_in, field_of, answer_of}
use Rattle.format_laws.specs.Asked.{FieldShows, Asked}
use Rattle.format_laws.specs.Fault.{Ruled, nine, eleven, fourteen}
use Rattle.format_laws.specs.SameLaws.{by_format}
use Rattle.format_laws.specs.RuledLaws.{Tied, tied_row}
use Rattle.format_laws.proofs.ShownLaws.{row_shown}

ruled_some : {n : ℕ} → Ruled n → 0 < n
ruled_some nine = omega arith
ruled_some eleven = omega arith
ruled_some fourteen = omega arith

not_delimiter : (line : List ℕ) → (Delimiter line → ⊥) → is_delimiter line ≡ false
not_delimiter line n = by (is_delimiter line) refl
  where
    by : (t : Bool) → is_delimiter line ≡ t → is_delimiter line ≡ false
    by true e = absurd (n (is_delimiter_sound line e))
    by false e = e

-- A refusal in front of another: of the judge, of the question, and tied as what follows.

tied_own : (n c : ℕ) (f g : Refusal) → Tied f g → Tied (or_else n c f) (or_else n c g)
tied_own zero c f g t = t
tied_own (suc n) c f g t = inr refl

pub first_first : (n c : ℕ) (g : Refusal) (x : Said Seen) → line_first (refusal n c) (line_first g x) ≡ line_first (or_else n c g) x
first_first zero c g x = refl
first_first (suc n) c g x = rw (lt-ltb 0 (suc n) (omega arith)) refl

unless_refused : (g f : Refusal) (t : State) → unless g t ≡ Err f → (g ≡ f) × (0 < f.number)
unless_refused g f t e = by g.number g.column e
  where
    by : (n c : ℕ) → unless (refusal n c) t ≡ Err f → (refusal n c ≡ f) × (0 < f.number)
    by zero c e = let z : ◌≡◌ {A = ℕ} 0 1 = cc in absurd (omega arith)
    by (suc n) c e = let same : refusal (suc n) c ≡ f = cc in (same, rw (← same) (omega arith))

unless_next : (g : Refusal) (s t : State) → unless g t ≡ Ok s → g.number ≡ 0
unless_next g s t e = by g.number g.column e
  where
    by : (n c : ℕ) → unless (refusal n c) t ≡ Ok s → n ≡ 0
    by zero c e = refl
    by (suc n) c e = let z : ◌≡◌ {A = ℕ} 0 1 = cc in absurd (omega arith)

module _ {s : State} {l text : List ℕ} (a : Asked s l text) where
  abbrev cs : List ℕ
  cs = columns true l

  abbrev row : Row
  row = row_due a.due

  abbrev fs : List Field
  fs = (taken row (filled cs)).fields

  -- the line's refusal by the judge, and by the question
  abbrev of_judge : Refusal
  of_judge = otherwise (line_fault true cs) (row_refusal row (filled cs))

  abbrev of_question : Refusal
  of_question = otherwise (line_fault true cs) (unruled_refusal fs (filled cs))

  tied : Tied of_judge of_question
  tied = tied_own (line_fault true cs).number (line_fault true cs).column _ _ (tied_row (filled cs) row)

  abbrev next : State
  next = state (Typed (after a.due (filled cs))) s.sets

  place_step_lem : step_of s (filled cs) ≡ unless (row_refusal row (filled cs)) next
  unfolding step_of typed_step
  place_step_lem = rw (a.place, not_delimiter (filled cs) a.inside, a.more) refl

  judge_step : line_step s l ≡ unless of_judge next
  unfolding line_step
  judge_step = by (line_fault true cs).number (line_fault true cs).column
    where
      by : (n c : ℕ) → line_outcome s (refusal n c) cs ≡ unless (or_else n c (row_refusal row (filled cs))) next
      by zero c = place_step_lem
      by (suc n) c = refl

  answer : (k : ℕ) → answer_of text k cs ≡ line_first of_question (shown_from fs 0 k (filled cs))
  unfolding field_of field_in
  answer k = by_format text fs a.reads k cs a.present ∙ first_first (line_fault true cs).number (line_fault true cs).column _ _

  answer_refused : (f : Refusal) → of_question ≡ f → 0 < f.number → (k : ℕ) → answer_of text k cs ≡ refused_by (at_line 0 f)
  answer_refused f e h k = answer k ∙ rw (e, lt-ltb 0 f.number h) refl

  -- where the judge refuses the line, and not with 9, 11 or 14, the question has the same number and column
  pub refused_same : (f : Refusal) → line_step s l ≡ Err f → (Ruled f.number → ⊥) → (k : ℕ) → answer_of text k cs ≡ refused_by (at_line 0 f)
  refused_same f e r k = by tied
    where
      u : (of_judge ≡ f) × (0 < f.number)
      u = unless_refused of_judge f next (sym judge_step ∙ e)

      by : Tied of_judge of_question → answer_of text k cs ≡ refused_by (at_line 0 f)
      by (inl q) = absurd (r (rw u.0 at q))
      by (inr q) = answer_refused f (q ∙ u.0) u.1 k

  -- where a field is shown, the judge passes the line or refuses it with 9, 11 or 14
  pub shown_passes : (k : ℕ) → (answer_of text k cs).reply.number ≡ 0 → (f : Refusal) → line_step s l ≡ Err f → Ruled f.number
  shown_passes k z f e = by tied
    where
      u : (of_judge ≡ f) × (0 < f.number)
      u = unless_refused of_judge f next (sym judge_step ∙ e)

      by : Tied of_judge of_question → Ruled f.number
      by (inl q) = rw u.0 at q
      by (inr q) =
          let n : f.number ≡ 0 = sym (ap (λ (x : Said Seen). x.reply.number) (answer_refused f (q ∙ u.0) u.1 k)) ∙ z in
          absurd (omega (arith, u.1))

  -- where the judge passes the line, each field shows its item
  module _ (t : State) (e : line_step s l ≡ Ok t) where
    none : of_judge.number ≡ 0
    none = unless_next of_judge t next (sym judge_step ∙ e)

    pub passed_row : (row_refusal row (filled cs)).number ≡ 0
    passed_row = (or_else_passed (line_fault true cs).number (line_fault true cs).column _ none).1

    asked_none : of_question.number ≡ 0
    asked_none = by tied
      where
        by : Tied of_judge of_question → of_question.number ≡ 0
        by (inl q) = let h = ruled_some q in absurd (omega (arith, none))
        by (inr q) = ap (λ (f : Refusal). f.number) q ∙ none

    fields_pass : (fields_refusal fs (filled cs)).number ≡ 0
    unfolding row_refusal taken_refusal
    fields_pass = (or_else_passed (fields_refusal fs (filled cs)).number (fields_refusal fs (filled cs)).column _ passed_row).0

    pub passed_shows : (k : ℕ) → k < length (items_of row.fields 0 (filled cs))
        → FieldShows row.fields 0 k (filled cs) (get_or (items_of row.fields 0 (filled cs)) k Item.blank) (answer_of text k cs)
    unfolding fields_refusal
    passed_shows k h =
        rw (answer k, le-ltb 0 of_question.number (omega (arith, asked_none)))
        (row_shown (filled cs) row k h (or_else_passed _ _ _ fields_pass).0 a.present)
