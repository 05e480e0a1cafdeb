-- The kinds of the forms by number, and the turns of the loop that finds a field.
use Rattle.std.specs.Prelude.{Ok, Err, ◌≡◌, List, ℕ, ◌+◌, ◌-◌, ◌≤◌, ◌<◌, eqb, length, drop, Bool, false}
use Rattle.std.proofs.Math.Path.{refl, sym}
use Rattle.std.proofs.Common.{◌∙◌, arith}
use borrow.Author.Tests.{eqb-true, lt-ltb, le-ltb}
use Rattle.std.proofs.Math.ListN.{get_or}
use Rattle.std.proofs.Math.Bool.{true}
use Rattle.laws.specs.ChoiceLaws.{false_not_true}
use Rattle.laws.specs.RangesLaws.{in_range}
use Rattle.codes.specs.Form.{forms, form_of, last_form}
use Rattle.codes.specs.FormLaws.{form_of_past}
use Rattle.format.specs.Format.{Kind}
use Rattle.line.specs.Line.{verdict}
use Rattle.line.specs.LineLaws.{verdict_ok, verdict_err}
use Rattle.line.specs.declared.Refusal.{Refusal}
use Rattle.layout.specs.Columns.{total}
use Rattle.record_table.specs.Records.{field_list}
use Rattle.record.specs.CheckLaws.{field_list_stop, field_list_end, listed, total_next}
use Rattle.judge.specs.declared.Reply.{Reply}
use Rattle.judge.specs.Judge.{reply_at}
use Rattle.reader.specs.Reader.{Said, refused, refused_by}
use Rattle.format_reader.specs.Question.{Seen, kind_of, field_shown, counts, shown_from, line_first}

-- 0 and the forms past the last are skipped columns, 1 and 2 texts, 3 is a real, those from 4 on are integers
abbrev is_text : Kind → Bool
is_text Kind.skip = false
is_text Kind.text = true
is_text Kind.integer = false
is_text Kind.real = false

abbrev is_integer : Kind → Bool
is_integer Kind.skip = false
is_integer Kind.text = false
is_integer Kind.integer = true
is_integer Kind.real = false

is_text_lem : (k : Kind) → is_text k ≡ true → k ≡ Kind.text
is_text_lem Kind.skip t = false_not_true t
is_text_lem Kind.text t = refl
is_text_lem Kind.integer t = false_not_true t
is_text_lem Kind.real t = false_not_true t

is_integer_lem : (k : Kind) → is_integer k ≡ true → k ≡ Kind.integer
is_integer_lem Kind.skip t = false_not_true t
is_integer_lem Kind.text t = false_not_true t
is_integer_lem Kind.integer t = refl
is_integer_lem Kind.real t = false_not_true t

module _ (k : ℕ) where
  pub kind_past : last_form < k → kind_of (form_of k) ≡ Kind.skip
  unfolding kind_of
  kind_past h = rw (form_of_past k h) refl

  pub kind_skip : k ≡ 0 → kind_of (form_of k) ≡ Kind.skip
  unfolding kind_of form_of forms
  kind_skip e = rw e refl

  pub kind_real : k ≡ 3 → kind_of (form_of k) ≡ Kind.real
  unfolding kind_of form_of forms
  kind_real e = rw e refl

  pub kind_text : (k ≡ 0 → ⊥) → k < 3 → kind_of (form_of k) ≡ Kind.text
  unfolding kind_of form_of forms
  kind_text n h = is_text_lem _ (in_range (λ (i : ℕ). is_text (kind_of (form_of i))) true 1 2 k refl (omega arith) (omega arith))

  pub kind_integer : 3 < k → k ≤ last_form → kind_of (form_of k) ≡ Kind.integer
  unfolding kind_of form_of forms
  kind_integer l h = is_integer_lem _ (in_range (λ (i : ℕ). is_integer (kind_of (form_of i))) true 4 27 k refl (omega arith) (omega arith))

-- k fields are passed, the next begins at the column at, and of those that are left the one asked for has the number left
pub record Finding (line forms widths : List ℕ) (field at k left : ℕ) : Type 0 where
  pub within : k ≤ length widths
  pub fit : at + total (drop k widths) ≤ 80
  pub same : shown_from (field_list (drop k forms) (drop k widths)) at left line ≡ shown_from (field_list forms widths) 0 field line

-- one turn: field k, of width w, from the column at on
module _ {line ks ws : List ℕ} {field at k left w : ℕ} (g : Finding line ks ws field at k left) (h : k < length ws) (l : length ws ≤ length ks) (q : w ≡ get_or ws k 0) where
  pub finding_fits : at + w ≤ 80
  finding_fits = let t : total (drop k ws) ≡ get_or ws k 0 + total (drop (k + 1) ws) = total_next ws k h in omega (arith, g.fit)

  pub finding_stop : w ≡ 0 → refused 18 0 ≡ shown_from (field_list ks ws) 0 field line
  unfolding shown_from
  finding_stop e = sym (rw (field_list_stop ks ws k h l (sym q ∙ e)) refl) ∙ g.same

  module _ (z : w ≡ 0 → ⊥) (n : ℕ) (e : n ≡ counts (kind_of (form_of (get_or ks k 0)))) where
    pub finding_here : left < n → field_shown (kind_of (form_of (get_or ks k 0))) at (at + w) line ≡ shown_from (field_list ks ws) 0 field line
    unfolding shown_from
    finding_here p = sym (rw (listed ks ws line k at w h l q z, ← e, lt-ltb left n p) refl) ∙ g.same

    pub finding_on : n ≤ left → Finding line ks ws field (at + w) (k + 1) (left - n)
    unfolding shown_from
    finding_on p =
        let t : total (drop k ws) ≡ get_or ws k 0 + total (drop (k + 1) ws) = total_next ws k h in
        record {
          within = omega arith;
          fit = omega (arith, g.fit);
          same = sym (rw (listed ks ws line k at w h l q z, ← e, le-ltb left n p) refl) ∙ g.same;
        }

pub finding_end : {line ks ws : List ℕ} {field at k left : ℕ} → Finding line ks ws field at k left → length ws ≤ k
    → refused 18 0 ≡ shown_from (field_list ks ws) 0 field line
unfolding shown_from
finding_end {line} {ks} {ws} {field} {at} {k} g h = sym (rw (field_list_end ks ws k h) refl) ∙ g.same

-- columns of a form of the table that is no skipped one are a field
pub counts_field : (k : ℕ) → (k ≡ 0 → ⊥) → k ≤ last_form → counts (kind_of (form_of k)) ≡ 1
unfolding counts kind_of form_of forms
counts_field k n h = eqb-true _ _ (in_range (λ (i : ℕ). eqb (counts (kind_of (form_of i))) 1) true 1 30 k refl (omega arith) (omega arith))

-- a refusal of the line is the answer; where there is none, what follows is
module _ (g : Refusal) (s : Said Seen) where
  pub first_refused : {f : Refusal} {r : Reply} → Err f ≡ verdict g → r ≡ reply_at f.number 1 f.column → refused_by r ≡ line_first g s
  first_refused {f} e q = let told = verdict_err g f e in rw (q, told.0, lt-ltb 0 g.number told.1) refl

  pub first_passed : Ok tt ≡ verdict g → s ≡ line_first g s
  first_passed e = rw (verdict_ok g e) refl
