-- The question answers nothing else, and 26, 27, the line's own and 18 for their reasons alone.
use Rattle.std.proofs.Math.Path.{◌≡◌, refl, ap}
use Rattle.std.proofs.Common.{◌∙◌, ⊎_elim, lt-ltb, le-ltb}
use Rattle.std.proofs.Math.Bool.{true}
use Rattle.std.specs.Prelude.{List, [], ◌∷◌, map, ltb, take, drop, Ok, Err}
use Prim.Native.Nat.{ℕ, zero, suc, ◌+◌, ◌-◌, ◌≤◌, ◌<◌}
use native.Mathlib.Omega.{arith}
use Rattle.laws.specs.Choice.{pick}
use Rattle.laws.specs.ChoiceLaws.{below_or_not}
use Rattle.real.specs.Real.{real_of}
use Rattle.real.proofs.RealLaws.{real_of_sound}
use Rattle.real.specs.Real.{Real}
use Rattle.real.specs.declared.RealFault.TheVariants as R
use Rattle.format.specs.Format.{Kind}
use Rattle.format.specs.Format as Format
use Rattle.format.specs.Reading.{Reading, reading_of}
use Rattle.format.specs.ReadingLaws.{ReadAs, TooLarge, reading_sound, reading_complete, reading_malformed, large_reading}
use Rattle.line.specs.Line.{line_fault, filled}
use Rattle.line.specs.declared.Refusal.{Refusal}
use Rattle.codes.specs.Form.{Form, skip}
use Rattle.field.specs.Field.{real_number, field_number}
use Rattle.record_table.specs.Row.{Field}
use Rattle.record.specs.CheckLaws.{or_else_passed, past_width}
use Rattle.judge.specs.Judge.{at_line}
use Rattle.reader.specs.Reader.{Said, refused_by}
use Rattle.reader.specs.Reader as Reader
use Rattle.line_laws.specs.Fault as LineFault
use Rattle.line_laws.specs.FaultLaws.{byte_inside}
use Rattle.record_laws.specs.Fault.{FieldFault}
use Rattle.format_reader.specs.Unruled.{looked_at, unruled_number, unruled_fault, unruled_refusal}
use Rattle.format_reader.specs.Question.{Seen, kind_of, counts, field_shown, real_shown, shown_from, line_first, field_in, field_of, form_for, row_field, answer_by, answer_of}
use Rattle.format_laws.specs.Asked.{InField}
use Rattle.format_laws.specs.Fault.{Ruled, nine, eleven, SpellingFault, LentFault}
use Rattle.format_laws.proofs.FaultLaws.{lent_refusal, lent_fault, lent_only, lent_none, lent_clear}
use Rattle.format_laws.proofs.JudgeLaws.{first_first}
use Rattle.format_laws.specs.Said.{QuestionNumber, byte, long, integer_malformed, real_malformed, integer_blank, real_blank}
use Rattle.format_laws.specs.Said.{NoFormat, LineRefused, field_count, NoField, SeenAs, a_text, an_integer, a_real, FieldSaid, shown, malformed, too_large_lem, no_field, line}
use Rattle.format_laws.specs.Said as Answered

-- The numbers of what can be wrong with a line.

field_own : {l cols : List ℕ} {n : ℕ} {f : Form} → FieldFault l n f cols → (Ruled n → ⊥) → QuestionNumber n
field_own (FieldFault.text_blank b) u = absurd (u nine)
field_own (FieldFault.integer_blank b o) u = integer_blank
field_own (FieldFault.integer_malformed b s) u = integer_malformed
field_own (FieldFault.out_of_range s h) u = absurd (u eleven)
field_own (FieldFault.against_rule s h k) u = absurd (u eleven)
field_own (FieldFault.real_blank b) u = real_blank
field_own (FieldFault.real_malformed b s) u = real_malformed

spelling_own : {fs : List Field} {l : List ℕ} {f : Refusal} → SpellingFault fs l f → QuestionNumber f.number × (1 ≤ f.column)
spelling_own (SpellingFault.field n k h p w) = (field_own w.fault w.looked_at_lem, omega arith)
spelling_own (SpellingFault.stray c p s) = (Answered.stray, s.here.some)

lent_own : {fs : List Field} {l : List ℕ} {f : Refusal} → LentFault fs l f → QuestionNumber f.number × (1 ≤ f.column)
lent_own (LentFault.own (LineFault.byte b)) = (byte, (byte_inside b).0)
lent_own (LentFault.own (LineFault.long a h)) = (long, omega arith)
lent_own (LentFault.fields a h w) = spelling_own w

-- none of them is 18, or above 25
own_number : {n : ℕ} → QuestionNumber n → (n ≤ 25) × (n ≡ 18 → ⊥)
own_number byte = (omega arith, λ e. omega arith)
own_number long = (omega arith, λ e. omega arith)
own_number integer_malformed = (omega arith, λ e. omega arith)
own_number real_malformed = (omega arith, λ e. omega arith)
own_number Answered.stray = (omega arith, λ e. omega arith)
own_number integer_blank = (omega arith, λ e. omega arith)
own_number real_blank = (omega arith, λ e. omega arith)

pub seen_number : {l : List ℕ} {a e : ℕ} {f : Form} {s : Said Seen} → SeenAs l a e f s → s.reply.number ≡ 0
seen_number a_text = refl
seen_number an_integer = refl
seen_number (a_real n c below size r) = refl

-- Field k of a FORMAT's on a line whose fields pass: shown where there is one, 18 where there is none.
data Picked (l : List ℕ) (fs : List Format.Field) (at k : ℕ) : Said Seen → Type 0 where
  here : {f : Field} {a : ℕ} {s : Said Seen} → k < field_count fs → InField (map row_field fs) at k f a → SeenAs l a (a + f.width) f.form s → Picked l fs at k s
  past : field_count fs ≤ k → Picked l fs at k (Reader.refused 18 0)

picked_past : {l : List ℕ} {fs : List Format.Field} {at k : ℕ} {s : Said Seen} → Picked l fs at k s → field_count fs ≤ k → s ≡ Reader.refused 18 0
picked_past (here h i v) m = absurd (omega arith)
picked_past (past h) m = refl

-- one field more in front, and its answer before those of the others
module _ (l : List ℕ) (fs : List Format.Field) (at w : ℕ) (s : ℕ → Said Seen) (rest : (j : ℕ) → Picked l fs (at + w) j (s j)) where
  abbrev with : Kind → List Format.Field
  with q = record { kind = q; width = w } ∷ fs

  over_skipped : {k : ℕ} {x : Said Seen} → Picked l fs (at + w) k x → Picked l (with Kind.skip) at k x
  unfolding field_count counts form_for
  over_skipped (here h i v) = here (omega arith) (InField.skipped refl i) v
  over_skipped (past h) = past (omega arith)

  module _ (q : Kind) (one : counts q ≡ 1) (n : form_for q ≡ skip → ⊥) where
    over_field : {k : ℕ} {x : Said Seen} → Picked l fs (at + w) k x → Picked l (with q) at (suc k) x
    unfolding field_count
    over_field (here h i v) = here (omega arith) (InField.later n i) v
    over_field (past h) = past (omega arith)

    counted : (k : ℕ) {x : Said Seen} → SeenAs l at (at + w) (form_for q) x → Picked l (with q) at k (pick (ltb k 1) x (s (k - 1)))
    unfolding field_count
    counted zero v = here (omega arith) (InField.here n) v
    counted (suc k) v =
        let e : suc k - 1 ≡ k = omega arith in
        rw (le-ltb (suc k) 1 (omega arith), e) (over_field (rest k))

  real_seen : (x : Real) → real_of (take w (drop at l)) ≡ x → looked_at (real_number x) ≡ 0 → SeenAs l at (at + w) (form_for Kind.real) (real_shown at (at + w) x)
  unfolding looked_at form_for
  real_seen (Ok v) e p = a_real v.minus v.coefficient v.below v.scale (rw (past_width at w) (real_of_sound (take w (drop at l)) v e).0)
  real_seen (Err R.Blank) e p = absurd (omega arith)
  real_seen (Err R.Malformed) e p = absurd (omega arith)

  kind_picked : (q : Kind) (k : ℕ) → unruled_number (form_for q) l (take w (drop at l)) ≡ 0
      → Picked l (with q) at k (pick (ltb k (counts (kind_of (form_for q)))) (field_shown (kind_of (form_for q)) at (at + w) l) (s (k - counts (kind_of (form_for q)))))
  unfolding unruled_number field_number form_for kind_of counts field_shown
  kind_picked Kind.skip k p =
      let e : k - 0 ≡ k = omega arith in
      rw (le-ltb k 0 (omega arith), e) (over_skipped (rest k))
  kind_picked Kind.text k p = counted Kind.text refl (λ z. let o : ◌≡◌ {A = ℕ} 0 1 = cc in omega arith) k a_text
  kind_picked Kind.integer k p = counted Kind.integer refl (λ z. let o : ◌≡◌ {A = ℕ} 0 1 = cc in omega arith) k an_integer
  kind_picked Kind.real k p =
      rw (past_width at w) (counted Kind.real refl (λ z. let o : ◌≡◌ {A = ℕ} 0 1 = cc in omega arith) k (real_seen (real_of (take w (drop at l))) refl p))

from_picked : (fs : List Format.Field) (at k : ℕ) (l : List ℕ) → (unruled_fault (map row_field fs) at l).number ≡ 0
    → Picked l fs at k (shown_from (map row_field fs) at k l)
unfolding unruled_fault shown_from field_count
from_picked [] at k l p = past (omega arith)
from_picked (f ∷ fs) at k l p =
    let m = or_else_passed _ _ _ p in
    kind_picked l fs at f.width (λ j. shown_from (map row_field fs) (at + f.width) j l) (λ j. from_picked fs (at + f.width) j l m.1) f.kind k m.0

refusal_fields : (fs : List Field) (l : List ℕ) → (unruled_refusal fs l).number ≡ 0 → (unruled_fault fs 0 l).number ≡ 0
unfolding unruled_refusal
refusal_fields fs l p = (or_else_passed _ _ _ p).0

-- The answer.
module _ (format : List ℕ) (k : ℕ) (lent : List ℕ) where
  module _ (fs : List Format.Field) where
    abbrev rows : List Field
    rows = map row_field fs

    read_answer : field_of rows k lent ≡ line_first (lent_refusal rows lent) (shown_from rows 0 k (filled lent))
    unfolding field_of field_in
    read_answer = first_first (line_fault true lent).number (line_fault true lent).column _ _

    picked : (lent_refusal rows lent).number ≡ 0 → Picked (filled lent) fs 0 k (shown_from rows 0 k (filled lent))
    picked z = from_picked fs 0 k (filled lent) (refusal_fields rows (filled lent) (or_else_passed (line_fault true lent).number (line_fault true lent).column _ z).1)

    picked_said : {s : Said Seen} → ReadAs fs format → ((f : Refusal) → LentFault rows lent f → ⊥) → Picked (filled lent) fs 0 k s → FieldSaid format k lent s
    picked_said r c (here {f} {a} h i v) = shown (record { fields = fs; read = r; clear = c; field = f; first = a; own = i; seen = v })
    picked_said r c (past h) = no_field (record { fields = fs; read = r; clear = c; few = h })

    refused_said : ReadAs fs format → {f : Refusal} → LentFault rows lent f → FieldSaid format k lent (refused_by (at_line 0 f))
    refused_said r {f} w = let o = lent_own w in line f o.0 o.1 (record { fields = fs; read = r; wrong = w })

    read_said : ReadAs fs format → FieldSaid format k lent (field_of rows k lent)
    read_said r =
        rw read_answer
        (⊎_elim
        (λ h. rw (lt-ltb 0 (lent_refusal rows lent).number h) (refused_said r (lent_fault rows lent h)))
        (λ h.
        let z : (lent_refusal rows lent).number ≡ 0 = omega arith in
        rw (le-ltb 0 (lent_refusal rows lent).number h) (picked_said r (lent_clear rows lent z) (picked z)))
        (below_or_not 0 (lent_refusal rows lent).number))

    answer_read : ReadAs fs format → answer_of format k lent ≡ line_first (lent_refusal rows lent) (shown_from rows 0 k (filled lent))
    unfolding answer_of
    answer_read r =
        let e : reading_of format ≡ Reading.fields fs = reading_complete r.text r.fit ∙ ap Reading.fields r.same in
        rw e read_answer

  pub question_said : FieldSaid format k lent (answer_of format k lent)
  unfolding answer_of
  question_said = by (reading_of format) refl
    where
      by : (r : Reading) → reading_of format ≡ r → FieldSaid format k lent (answer_by r k lent)
      by Reading.malformed e = malformed (λ t x. reading_malformed x e)
      by Reading.too_large e = too_large_lem (large_reading format e)
      by (Reading.fields fs) e = read_said fs (reading_sound format fs e)

  -- 18 wherever there is no such field
  pub no_field_said : NoField format k lent → answer_of format k lent ≡ Reader.refused 18 0
  no_field_said n =
      let rs = rows n.fields in
      let z : (lent_refusal rs lent).number ≡ 0 = lent_none rs lent n.clear in
      answer_read n.fields n.read ∙ rw (le-ltb 0 (lent_refusal rs lent).number (omega arith)) (picked_past (picked n.fields z) n.few)

  -- and the line's own wherever something is wrong with it
  pub line_said : {f : Refusal} → LineRefused format lent f → answer_of format k lent ≡ refused_by (at_line 0 f)
  line_said {f} n =
      let u = lent_only (rows n.fields) lent n.wrong in
      let e : lent_refusal (rows n.fields) lent ≡ f = u.0 in
      answer_read n.fields n.read ∙ rw (e, lt-ltb 0 f.number u.1) refl

  -- 26, 27 and 18 for nothing else
  only_malformed : {s : Said Seen} → FieldSaid format k lent s → s.reply.number ≡ 26 → NoFormat format
  only_malformed (shown x) e = absurd (omega (arith, seen_number x.seen))
  only_malformed (malformed n) e = n
  only_malformed (too_large_lem n) e = absurd (omega arith)
  only_malformed (line f p a n) e = absurd (omega (arith, (own_number p).0))
  only_malformed (no_field n) e = absurd (omega arith)

  only_large : {s : Said Seen} → FieldSaid format k lent s → s.reply.number ≡ 27 → TooLarge format
  only_large (shown x) e = absurd (omega (arith, seen_number x.seen))
  only_large (malformed n) e = absurd (omega arith)
  only_large (too_large_lem n) e = n
  only_large (line f p a n) e = absurd (omega (arith, (own_number p).0))
  only_large (no_field n) e = absurd (omega arith)

  only_past : {s : Said Seen} → FieldSaid format k lent s → s.reply.number ≡ 18 → NoField format k lent
  only_past (shown x) e = absurd (omega (arith, seen_number x.seen))
  only_past (malformed n) e = absurd (omega arith)
  only_past (too_large_lem n) e = absurd (omega arith)
  only_past (line f p a n) e = absurd ((own_number p).1 e)
  only_past (no_field n) e = n

  pub said_malformed : (answer_of format k lent).reply.number ≡ 26 → NoFormat format
  said_malformed = only_malformed question_said

  pub said_large : (answer_of format k lent).reply.number ≡ 27 → TooLarge format
  said_large = only_large question_said

  pub said_no_field : (answer_of format k lent).reply.number ≡ 18 → NoField format k lent
  said_no_field = only_past question_said
