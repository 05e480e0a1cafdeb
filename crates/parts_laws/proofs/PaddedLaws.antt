-- Padding in a text: where a byte of the last data line past the stored numbers is no blank, every field that is left is padding, and each spells
-- a real.
use Rattle.std.specs.Prelude.{◌≡◌, Bool, List, [], ◌++◌, get_or, take, drop}
use Rattle.std.proofs.Math.Path.{refl}
use Rattle.std.proofs.Common.{sym, ◌∙◌, ⊎_elim, div-lt_iff_lt-mul, mul-pos, mod-eq_of_lt, zero-add}
use Rattle.std.proofs.Math.Bool.{true, false}
use Prim.Native.Nat.{ℕ, suc, ◌+◌, ◌-◌, ◌*◌, ◌<◌, ◌≤◌}
use Rattle.std.proofs.Math.Nat.{suc-mul, add-mul-div_right, add-mul-mod_self_right, div-eq_of_lt}
use native.Mathlib.Omega.{arith}
use borrow.Author.Tests.{ne_eqb}
use Rattle.std.proofs.Math.Seq.{get_or-take, get_or-drop}
use Rattle.laws.specs.Choice.{pick}
use Rattle.laws.specs.ChoiceLaws.{false_not_true, below_or_not}
use Rattle.text.specs.Blank.{Blanks, all_blank}
use Rattle.text.specs.BlankLaws.{all_blank_complete, all_blank_sound, blanks_take}
use Rattle.layout.specs.Columns.{line_of, field_of, field_start, total}
use Rattle.layout.specs.ColumnsLaws.{stored_at, field_of_inside}
use Rattle.layout.specs.Layout.{layout_of, fields_of}
use Rattle.layout.specs.LayoutLaws.{fields_of_some}
use Rattle.field.specs.Item.{Item}
use Rattle.record_table.specs.Row.{span, first_fields}
use Rattle.record_table.specs.Records.{data_row}
use Rattle.record_table.specs.PaddingLaws.{data_full}
use Rattle.record_table.specs.TypedSets.{header_lines}
use Rattle.record.specs.Written.{InColumns}
use Rattle.record.proofs.WrittenLaws.{fields_past_blank}
use Rattle.record_laws.specs.FieldsInLaws.{fields_in_join}
use Rattle.record_laws.specs.GroupLaws.{blanks_at}
use Rattle.theory.specs.Sets.{Set}
use Rattle.theory.specs.Due.{lines_for}
use Rattle.theory.specs.Proper.{SetLines}
use Rattle.parts.specs.Parts.{Part}
use Rattle.parts.specs.Parts as Parts
use Rattle.parts.specs.Padding.{last_field, counted_past, remainder, padding_in, padding_of}
use Rattle.parts_laws.specs.Holds.{Holds}
use Rattle.parts_laws.specs.Declares.{set_case}
use Rattle.parts_laws.specs.DeclaresLaws.{case_held, line_of_columns}
use Rattle.parts_laws.specs.CaseLaws.{numbers_of_some, case_eight, declared_some}
use Rattle.parts_laws.specs.Stored.{stored_count, stored_item, own_columns}
use Rattle.parts_laws.specs.Field.{Spelled}
use Rattle.parts_laws.specs.FieldLaws.{field_at}
use Rattle.parts_laws.specs.StoredLaws.{line_enough, set_data, stored_case, stored_spelled}
use Rattle.parts_laws.specs.PaddingLaws.{stored_held, last_of, last_held, counted_span}
use Rattle.parts_laws.specs.Whole.{field_count}

-- a line that is not blank past its due fields has a real in each field of the full line
padded_field : (c m : ℕ) {is : List Item} {line : List ℕ} → InColumns (first_fields m (data_row c)) is line
    → (Blanks (drop (span (first_fields m (data_row c)).fields) line) → ⊥) → (k : ℕ) → k < fields_of c
    → (i : Item) × Spelled i (take (get_or (layout_of c).widths k 0) (drop (field_start (layout_of c).widths k) line))
unfolding data_row fields_of
padded_field c m (InColumns.alone f) n k l = absurd (n (fields_past_blank f))
padded_field c m {is} (InColumns.padded own more ps e f p) n k l = (get_or (is ++ ps) k Item.blank, field_at (layout_of c).widths k (fields_in_join f e p) (data_full m c) l)

-- stored number k * n + f stands in field f of data line k
pub stored_place : (n k f : ℕ) → f < n → (line_of n (f + k * n) ≡ k) × (field_of n (f + k * n) ≡ f)
unfolding line_of field_of
stored_place n k f h =
    (add-mul-div_right f k (omega arith) ∙ rw (div-eq_of_lt h, zero-add) refl, add-mul-mod_self_right f k n ∙ mod-eq_of_lt h)

-- a 58 stores a number
pub stored_some : {s : Set} {css : List (List ℕ)} → SetLines s css → s.number ≡ 58 → 0 < stored_count s
unfolding stored_count
stored_some {s} l e = mul-pos (declared_some l e) (numbers_of_some (set_case s) (case_eight l e))

module _ {s : Set} {p : Part} (h : Holds s p) (e : s.number ≡ 58) (some : 0 < stored_count s) where
  abbrev c : ℕ
  c = set_case s

  abbrev t : ℕ
  t = stored_count s

  abbrev last : ℕ
  last = line_of (fields_of c) (t - 1)

  abbrev line : List ℕ
  line = Parts.line_of p (header_lines + last)

  -- the last stored number's line and field
  pub last_number : last * fields_of c + suc (last_field c t) ≡ t
  unfolding last_field
  last_number = omega (arith, stored_at (fields_of c) (t - 1), some)

  pub last_inside : last_field c t < fields_of c
  unfolding last_field
  last_inside = field_of_inside (fields_of c) (t - 1) (fields_of_some c (stored_case s 0 some))

  -- how many fields are left of its line
  fields_left : t + (fields_of c - suc (last_field c t)) ≡ field_count s
  unfolding field_count
  fields_left =
      let l : lines_for (fields_of c) t ≡ suc last = last_of (fields_of c) t (fields_of_some c (stored_case s 0 some)) some in
      rw (l, suc-mul last (fields_of c)) (omega (arith, last_number, last_inside))

  pub padding_held : padding_of p ≡ padding_in c t line
  unfolding padding_of
  padding_held = rw (stored_held h, case_held h e, last_held h e some, ne_eqb t 0 (λ z. omega arith)) refl

  pub padding_whole : (a : ℕ) → counted_past c t ≤ a → a < total (layout_of c).widths → (get_or line a 32 ≡ 32 → ⊥) → t + padding_of p ≡ field_count s
  unfolding padding_in remainder
  padding_whole a from past n = rw padding_held (by (all_blank (remainder c t line)) refl)
    where
      by : (b : Bool) → all_blank (remainder c t line) ≡ b → t + pick b 0 (fields_of c - suc (last_field c t)) ≡ field_count s
      by true z =
          let at : ℕ = counted_past c t in
          let k : at + (a - at) ≡ a = omega arith in
          let cut = get_or-take (total (layout_of c).widths - at) (drop at line) (a - at) 32 (omega arith) ∙ get_or-drop at line (a - at) 32 in
          absurd (n (rw k at (sym cut ∙ blanks_at (a - at) (all_blank_sound (take (total (layout_of c).widths - at) (drop at line)) z))))
      by false z = fields_left

  -- the padding numbers are on the last line too
  padding_few : t + padding_of p ≤ field_count s
  unfolding padding_in
  padding_few = rw padding_held (by (all_blank (remainder c t line)))
    where
      by : (b : Bool) → t + pick b 0 (fields_of c - suc (last_field c t)) ≤ field_count s
      by true = omega (arith, fields_left)
      by false = omega (arith, fields_left)

  -- each of them spells a real
  pub padding_spelled : (j : ℕ) → t ≤ j → j < t + padding_of p → (i : Item) × Spelled i (own_columns c p j)
  unfolding own_columns padding_in remainder
  padding_spelled j from below = by (all_blank (remainder c t line)) refl (rw padding_held at below)
    where
      field : ℕ
      field = j - last * fields_of c

      by : (b : Bool) → all_blank (remainder c t line) ≡ b → j < t + pick b 0 (fields_of c - suc (last_field c t)) → (i : Item) × Spelled i (own_columns c p j)
      by true z l = absurd (omega arith)
      by false z l =
          let g : j - last * fields_of c < fields_of c = omega (arith, last_number, last_inside) in
          let k : field + last * fields_of c ≡ j = omega (arith, last_number) in
          let place = stored_place (fields_of c) last field g in
          let m : t - last * fields_of c ≡ suc (last_field c t) = omega (arith, last_number) in
          let w = (set_data h.lines e).written last (line_enough (fields_of c) t (t - 1) (fields_of_some c (stored_case s 0 some)) (omega arith)) in
          let own : InColumns (first_fields (suc (last_field c t)) (data_row c)) (get_or s.lines (header_lines + last) []) line
          = rw (line_of_columns p (header_lines + last)) (rw m at w.in_columns) in
          let filled : Blanks (drop (span (first_fields (suc (last_field c t)) (data_row c)).fields) line) → ⊥
          = λ b. false_not_true (sym z ∙ all_blank_complete (blanks_take (total (layout_of c).widths - counted_past c t) (rw (counted_span c t) at b))) in
          let x = padded_field c (suc (last_field c t)) own filled field g in
          rw (← k, place.0, place.1) x

  -- the line of any number, stored or padding, is there, and its columns spell a real
  pub number_line : (j : ℕ) → j < t + padding_of p → line_of (fields_of c) j < lines_for (fields_of c) t
  unfolding line_of field_count
  number_line j l = (div-lt_iff_lt-mul (fields_of_some c (stored_case s 0 some))).1 (omega (arith, padding_few))

  pub number_spelled : (j : ℕ) → j < t + padding_of p → (i : Item) × Spelled i (own_columns c p j)
  number_spelled j l =
      ⊎_elim (λ (q : j < t). (stored_item s j, stored_spelled h e j q)) (λ (q : t ≤ j). padding_spelled j q l) (below_or_not j t)
