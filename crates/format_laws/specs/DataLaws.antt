-- On a data line of a 58, by the FORMAT of its fields or of the first of them, a field shows the real in its own columns.
use Rattle.std.specs.Prelude.{◌≡◌, false, length, get_or, take, drop}
use Rattle.std.proofs.Math.Path.{refl}
use Rattle.std.proofs.Common.{sym, ap, ◌∙◌, zero-add, add-zero, lt-ltb, le-ltb}
use Rattle.std.proofs.Math.Bool.{true}
use mathlib.Core.List.{List, [], ◌∷◌, map}
use Prim.Native.Nat.{ℕ, zero, suc, ◌+◌, ◌-◌, ◌<◌}
use native.Mathlib.Omega.{arith}
use Rattle.real.specs.Real.{real_of}
use Rattle.line.specs.Line.{refusal, line_fault, filled}
use Rattle.line.specs.declared.Refusal.{Refusal}
use Rattle.layout.specs.Columns.{field_start, field_past}
use Rattle.layout.specs.Layout.{layout_of, fields_of}
use Rattle.field.specs.Field.{may_blank}
use Rattle.record_table.specs.Row.{Field}
use Rattle.record_table.specs.Records.{E, data_row}
use Rattle.record.specs.CheckLaws.{past_width}
use Rattle.reader.specs.Reader.{Said}
use Rattle.format_reader.specs.Unruled.{unruled_refusal}
use Rattle.format_reader.specs.Question.{Seen, kind_of, counts, field_shown, real_shown, shown_from, line_first, field_in, field_of, answer_of}
use Rattle.format_laws.specs.Asked.{ReadsAs, left_blank}
use Rattle.format_laws.specs.SameLaws.{by_format}

-- what follows a line's refusal, where there is none
first_none : (f : Refusal) (s : Said Seen) → (line_first f s).reply.number ≡ 0 → line_first f s ≡ s
first_none f s e = by f.number f.column e
  where
    by : (n c : ℕ) → (line_first (refusal n c) s).reply.number ≡ 0 → line_first (refusal n c) s ≡ s
    by zero c e = refl
    by (suc n) c e = let z : suc n ≡ 0 = rw (lt-ltb 0 (suc n) (omega arith)) at e in absurd (omega arith)

-- the first n of some reals, from the column at on
real_present : (ws : List ℕ) (n : ℕ) (line : List ℕ) → left_blank (take n (map E ws)) line ≡ false
unfolding left_blank may_blank
real_present ws zero line = refl
real_present [] (suc n) line = refl
real_present (w ∷ ws) (suc n) line = real_present ws n line

module _ (line : List ℕ) where
  abbrev real_at : ℕ → ℕ → Said Seen
  real_at at w = real_shown at (at + w) (real_of (take w (drop at line)))

  real_from : (ws : List ℕ) (n i at : ℕ) → i < n → i < length ws → shown_from (take n (map E ws)) at i line ≡ real_at (at + field_start ws i) (get_or ws i 0)
  unfolding shown_from kind_of counts field_shown field_start
  real_from [] n i at h l = absurd (omega arith)
  real_from (w ∷ ws) zero i at h l = absurd (omega arith)
  real_from (w ∷ ws) (suc n) zero at h l = rw (add-zero at, past_width at w) refl
  real_from (w ∷ ws) (suc n) (suc i) at h l =
      let e : suc i - 1 ≡ i = omega arith in
      let m : at + w + field_start ws i ≡ at + (w + field_start ws i) = omega arith in
      rw (le-ltb (suc i) 1 (omega arith), e, ← m) (real_from ws n i (at + w) (omega arith) (omega arith))

module _ (c n : ℕ) (text : List ℕ) (r : ReadsAs text (take n (data_row c).fields)) (i : ℕ) (h : i < n) (l : i < fields_of c) (lent : List ℕ) where
  abbrev widths : List ℕ
  widths = (layout_of c).widths

  abbrev fs : List Field
  fs = take n (data_row c).fields

  fields_shown : shown_from fs 0 i (filled lent) ≡ real_at (filled lent) (field_start widths i) (get_or widths i 0)
  unfolding data_row fields_of
  fields_shown = real_from (filled lent) widths n i 0 h l ∙ rw (zero-add (field_start widths i)) refl

  present : left_blank fs (filled lent) ≡ false
  unfolding data_row
  present = real_present widths n (filled lent)

  asked : (field_of fs i lent).reply.number ≡ 0 → field_of fs i lent ≡ shown_from fs 0 i (filled lent)
  unfolding field_of field_in
  asked z =
      let a = first_none (line_fault true lent) (line_first (unruled_refusal fs (filled lent)) (shown_from fs 0 i (filled lent))) z in
      a ∙ first_none (unruled_refusal fs (filled lent)) (shown_from fs 0 i (filled lent)) (ap (λ (s : Said Seen). s.reply.number) (sym a) ∙ z)

  pub data_shown : (answer_of text i lent).reply.number ≡ 0
      → answer_of text i lent ≡ real_shown (field_start widths i) (field_past widths i) (real_of (take (get_or widths i 0) (drop (field_start widths i) (filled lent))))
  unfolding field_past
  data_shown z =
      let e = by_format text fs r i lent present in
      e ∙ asked (ap (λ (s : Said Seen). s.reply.number) (sym e) ∙ z) ∙ fields_shown
