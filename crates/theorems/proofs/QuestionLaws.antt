-- The question of C-15: what it shows on a line that the judge passes, and the bytes that C is given.
use Rattle.std.specs.Prelude.{◌≡◌, true, ℕ, ◌≤◌, ◌<◌, length, get_or}
use Rattle.std.proofs.Math.Path.{refl}
use Rattle.std.proofs.Common.{ap, arith}
use mathlib.Core.List.{List, [], ◌∷◌, append-nil}
use Rattle.output.specs.Output.{bytes_of}
use Rattle.format.specs.Reading.{reading_of, malformed, too_large}
use Rattle.line.specs.Line.{columns}
use Rattle.line.specs.Line as Line
use Rattle.codes.specs.Form.{Form}
use Rattle.field.specs.Item.{Item}
use Rattle.record.specs.Check.{items_of}
use Rattle.record.specs.Written.{Written}
use Rattle.walk.specs.Due.{row_due}
use Rattle.walk.specs.declared.State.{State}
use Rattle.std.specs.Prelude.{Ok}
use Rattle.judge.specs.Judge.{reply, line_step}
use Rattle.reader.specs.Reader.{Said, said, refused, Shown, shown}
use Rattle.format_reader.specs.Question.{Seen, answer_of}
use Rattle.format_reader.specs.Question as Question
use Rattle.host.specs.Packed.{word, number_in}
use Rattle.host.specs.Answer.{seen_bytes, field_bytes, field_answer, reply_for, bytes_after}
use Rattle.format_laws.specs.Asked.{FieldShows, Asked}
use Rattle.format_laws.proofs.JudgeLaws.{passed_row, passed_shows}
use Rattle.format_laws.specs.Said.{SeenAs, a_text, an_integer, a_real, FieldSaid}
use Rattle.format_laws.proofs.SaidLaws.{question_said, seen_number}
use Rattle.theorems.specs.Answers.{FilledBy, KindBytes}
use Rattle.judge_laws.specs.RowTestsLaws.{row_due_sound}
use Rattle.theorems.proofs.KeptLaws.{answer_kept}
use Rattle.theorems.specs.LentLaws.{filled, short, twenty}

-- the items that the row due has on a line, each shown by its field in its own columns
pub record ItemsShown {s : State} {l text : List ℕ} (a : Asked s l text) : Type 0 where
  pub items : List Item
  pub written : Written (row_due a.due) items (Line.filled (columns true l))
  pub shows : (k : ℕ) → k < length items
      → FieldShows (row_due a.due).fields 0 k (Line.filled (columns true l)) (get_or items k Item.blank) (answer_of text k (columns true l))

pub items_shown : {s : State} {l text : List ℕ} (a : Asked s l text) (t : State) → line_step s l ≡ Ok t → ItemsShown a
items_shown {s} {l} a t e = record {
  items = items_of (row_due a.due).fields 0 (Line.filled (columns true l));
  written = row_due_sound a.due (columns true l) (passed_row a t e);
  shows = passed_shows a t e;
}

-- 26 and 27 come before the line's own
pub text_first : (text : List ℕ) (k : ℕ) (line : List ℕ)
    → (reading_of text ≡ malformed → answer_of text k line ≡ refused 26 0) × (reading_of text ≡ too_large → answer_of text k line ≡ refused 27 0)
unfolding answer_of
text_first text k line = (λ e. rw e refl, λ e. rw e refl)

-- a refusal shows nothing
quiet : {text : List ℕ} {k : ℕ} {lent : List ℕ} {s : Said Seen} → FieldSaid text k lent s → 0 < s.reply.number → field_bytes s.shown ≡ []
unfolding field_bytes
quiet (FieldSaid.shown x) h = absurd (omega (arith, seen_number x.seen))
quiet (FieldSaid.malformed n) h = refl
quiet (FieldSaid.too_large_lem n) h = refl
quiet (FieldSaid.line f p a n) h = refl
quiet (FieldSaid.no_field n) h = refl

pub field_kept : (text : List ℕ) (k : ℕ) (lent out : List ℕ) → 0 < number_in (reply_for (field_answer (answer_of text k lent)) (length out))
    → bytes_after (field_answer (answer_of text k lent)) out ≡ out
field_kept text k lent out h = answer_kept (field_answer (answer_of text k lent)) out (quiet (question_said text k lent)) h

-- how many bytes a field has
eight : (a e : ℕ) → length (seen_bytes (Question.columns a e)) ≡ 8
unfolding seen_bytes bytes_of
eight a e = refl

twenty_seen : (x : Shown) → length (seen_bytes (Question.number x)) ≡ 20
unfolding seen_bytes
twenty_seen x = twenty x

seen_bytes_lem : {l : List ℕ} {a e kind : ℕ} {f : Form} {x : Seen} {s : Said Seen} → SeenAs l a e f s → s ≡ said 0 kind (x ∷ []) → KindBytes kind (length (seen_bytes x))
seen_bytes_lem {a = a} {e} {kind} {x = x} a_text q =
    let n : 1 ≡ kind = ap (λ (t : Said Seen). t.reply.place) q in
    let y : Question.columns a e ≡ x = cc (ap (λ (t : Said Seen). t.shown) q) in
    rw (← n, ← y, eight a e) KindBytes.text
seen_bytes_lem {a = a} {e} {kind} {x = x} an_integer q =
    let n : 2 ≡ kind = ap (λ (t : Said Seen). t.reply.place) q in
    let y : Question.columns a e ≡ x = cc (ap (λ (t : Said Seen). t.shown) q) in
    rw (← n, ← y, eight a e) KindBytes.integer
seen_bytes_lem {a = a} {e} {kind} {x = x} (a_real n c below size r) q =
    let p : 3 ≡ kind = ap (λ (t : Said Seen). t.reply.place) q in
    let y : Question.number (shown a e n c below size) ≡ x = cc (ap (λ (t : Said Seen). t.shown) q) in
    rw (← p, ← y, twenty_seen (shown a e n c below size)) KindBytes.real

module _ (text : List ℕ) (k : ℕ) (lent : List ℕ) (kind : ℕ) (x : Seen) (e : answer_of text k lent ≡ said 0 kind (x ∷ [])) where
  pub field_bytes_lem : KindBytes kind (length (seen_bytes x))
  field_bytes_lem = of (question_said text k lent) e
    where
      shows_some : {s : Said Seen} → s ≡ said 0 kind (x ∷ []) → 0 < length s.shown
      shows_some q = rw q (omega arith)

      of : {s : Said Seen} → FieldSaid text k lent s → s ≡ said 0 kind (x ∷ []) → KindBytes kind (length (seen_bytes x))
      of (FieldSaid.shown y) q = seen_bytes_lem y.seen q
      of (FieldSaid.malformed n) q = absurd (omega (arith, shows_some q))
      of (FieldSaid.too_large_lem n) q = absurd (omega (arith, shows_some q))
      of (FieldSaid.line f p a n) q = absurd (omega (arith, shows_some q))
      of (FieldSaid.no_field n) q = absurd (omega (arith, shows_some q))

  asked_said : field_answer (answer_of text k lent) ≡ said 0 kind (seen_bytes x)
  unfolding field_bytes
  asked_said = rw (e, append-nil (seen_bytes x)) refl

  pub field_answers : (out : List ℕ) → length (seen_bytes x) ≤ length out
      → FilledBy (seen_bytes x) kind (reply_for (field_answer (answer_of text k lent)) (length out)) out (bytes_after (field_answer (answer_of text k lent)) out)
  field_answers out h = filled (field_answer (answer_of text k lent)) kind (seen_bytes x) out asked_said h

  pub field_short : (room : ℕ) → room < length (seen_bytes x) → reply_for (field_answer (answer_of text k lent)) room ≡ word (reply 20 0)
  field_short room h = short (field_answer (answer_of text k lent)) kind room (seen_bytes x) asked_said h
