-- A line: a row takes it exactly when it is a writing of items by the row, and those are the items that are read in it.
use Rattle.std.specs.Prelude.{◌≡◌, Bool, length}
use Rattle.std.proofs.Math.Path.{refl}
use Rattle.std.proofs.Common.{sym, ◌∙◌, add-zero, length-drop, take-append-drop, drop-drop, take_at, drop_at}
use Rattle.std.proofs.Math.Logic.{⊎_elim}
use Rattle.std.proofs.Math.Bool.{true, false}
use mathlib.Core.List.{List, [], ◌∷◌, ◌++◌, map, append_assoc, append-nil}
use Prim.Native.Nat.{ℕ, zero, suc, ◌+◌, ◌≤◌}
use Rattle.std.proofs.Math.Nat.{zero-add}
use native.Mathlib.Omega.{arith}
use Rattle.std.proofs.Math.ListN.{take, drop}
use Rattle.std.proofs.Math.Seq.{length-take-le, take-add}
use Rattle.laws.specs.ChoiceLaws.{and_left, and_right, false_not_true}
use Rattle.laws.specs.CutLaws.{tail_part}
use Rattle.text.specs.Blank.{Blanks, none, all_blank}
use Rattle.text.specs.BlankLaws.{all_blank_complete, all_blank_sound}
use Rattle.text.proofs.TextLaws.{trimmed_sound}
use Rattle.line.specs.Line.{passed}
use Rattle.codes.specs.Form.{Form, skip, text, identification, real, integer}
use Rattle.layout.specs.Columns.{total}
use Rattle.field.specs.Item.{Item}
use Rattle.field.specs.Field.{columns_of, may_blank, field_number, with_item}
use Rattle.record_table.specs.Row.{Field, Row, span, padding_fields, with_padding, breach}
use Rattle.record_laws.specs.KeptReadingLaws.{kept_complete, kept_sound}
use Rattle.record.specs.Check.{fields_fault, or_column, stray_in, stray, items_of, breach_fault, condition_fault, stray_fault, fields_refusal, remainder_in, taken_refusal, row_refusal}
use Rattle.record.specs.CheckLaws.{or_else_passed}
use Rattle.record.specs.TakenLaws.{taken_blank, taken_filled, remainder_none}
use Rattle.record.specs.Written.{a_text, FieldsIn, rest, skipped, stands, InColumns, optional_items, AllBlank, Together, Kept, nothing, Written}
use Rattle.record.proofs.WrittenLaws.{fields_past_blank}
use Rattle.record_laws.specs.Group.{placed_form, placed_from, Grouped, Fillable, Readable}
use Rattle.record_laws.specs.GroupLaws.{Leaves, leaves_whole, leaves_later, leaves_may, together_read, own_grouped}
use Rattle.record_laws.specs.FieldsInLaws.{span_append, fields_in_join, blanks_left, fields_blank}
use Rattle.record_laws.specs.FieldReadingLaws.{first_byte_complete, first_byte_sound, Reads, skip_complete, items_stand, stands_complete, identification_sound, integer_sound, real_sound}

-- Where a refusal's number is 0, each of its parts passes.

or_column_none : (c k : ℕ) → or_column c k ≡ 0 → (c ≡ 0) × (k ≡ 0)
or_column_none zero k h = (refl, h)
or_column_none (suc c) k h = absurd (omega arith)

stray_fault_passed : (c : ℕ) → (stray_fault c).number ≡ 0 → c ≡ 0
stray_fault_passed zero h = refl
stray_fault_passed (suc c) h = absurd (omega arith)

breach_fault_passed : (fs : List Field) (k : ℕ) → (breach_fault fs k).number ≡ 0 → k ≡ 0
breach_fault_passed fs zero h = refl
breach_fault_passed fs (suc k) h = absurd (omega arith)

module _ (line : List ℕ) (eighty : length line ≡ 80) where
  -- The columns of a field from the column at on, those after it, and those past the last field.

  field_width : (at w : ℕ) → at + w ≤ 80 → length (take w (drop at line)) ≡ w
  field_width at w h = length-take-le w (drop at line) (rw (length-drop, eighty) (omega arith))

  field_after : (at w : ℕ) (own cols : List ℕ) → length own ≡ w → drop at line ≡ own ++ cols → drop (at + w) line ≡ cols
  field_after at w own cols l e = sym (drop-drop w at line) ∙ rw e (drop_at own cols w l)

  field_join : (at w : ℕ) → take w (drop at line) ++ drop (at + w) line ≡ drop at line
  field_join at w = rw (← (drop-drop w at line)) (take-append-drop w (drop at line))

  fields_past : (at : ℕ) → columns_of at 80 line ≡ drop at line
  fields_past at = rw eighty at (tail_part line at)

  -- From writing to check.

  -- from the column at on the fields pass, no byte is stray, and these items are read
  record ReadsFrom (at : ℕ) (fs : List Field) (is : List Item) : Type 0 where
    faultless : fields_fault fs at line ≡ passed
    clear : stray fs at line ≡ 0
    items : items_of fs at line ≡ is

  -- one field more in front
  reads_from_field : (at : ℕ) (f : Field) (fs : List Field) (own : List ℕ) (is js : List Item) → take f.width (drop at line) ≡ own
      → Reads line f.form own is js → ReadsFrom (at + f.width) fs is → ReadsFrom at (f ∷ fs) js
  unfolding fields_fault stray items_of
  reads_from_field at f fs own is js e r t = record {
    faultless = rw (e, r.number) t.faultless;
    clear = rw (e, r.clear (at + 1)) t.clear;
    items = rw (e, t.items) r.items;
  }

  -- items that stand in the columns from at on are read there
  fields_in_complete : {fs : List Field} {is : List Item} {cols : List ℕ} (a e : ℕ) → FieldsIn fs is cols → (at : ℕ) → drop at line ≡ cols
      → placed_from a e fs at ≡ true → Leaves a e line (optional_items fs is) → ReadsFrom at fs is
  unfolding fields_fault stray items_of placed_from optional_items
  fields_in_complete a e (rest b) at d g n = record { faultless = refl; clear = first_byte_complete (at + 1) (rw (fields_past at, d) b); items = refl }
  fields_in_complete a e (skipped {w} {fs} {is} bl cols l b r) at d g n =
      reads_from_field at _ fs bl is is (rw d (take_at bl cols w l)) (skip_complete line is b)
      (fields_in_complete a e r (at + w) (field_after at w bl cols l d) g n)
  fields_in_complete a e (stands {form} {w} {fs} {i} {is} own cols l s r) at d g n =
      let o = leaves_may a e line at w is fs s (and_left (placed_form a e at w form) _ g) n in
      reads_from_field at _ fs own is (i ∷ is) (rw d (take_at own cols w l)) (stands_complete line is s o)
      (fields_in_complete a e r (at + w) (field_after at w own cols l d) (and_right (placed_form a e at w form) _ g) (leaves_later a e line w is fs s n))

  -- the same without a look at the columns past them
  items_read : {fs : List Field} {is : List Item} {cols : List ℕ} → FieldsIn fs is cols → (at : ℕ) (more : List ℕ) → drop at line ≡ cols ++ more
      → items_of fs at line ≡ is
  unfolding items_of
  items_read (rest b) at more d = refl
  items_read (skipped {w} {fs} {is} bl cols l b r) at more d =
      items_read r (at + w) more (field_after at w bl (cols ++ more) l (d ∙ append_assoc bl cols more))
  items_read (stands {form} {w} {fs} {i} {is} own cols l s r) at more d =
      let e = d ∙ append_assoc own cols more in
      let t : take w (drop at line) ≡ own = rw e (take_at own (cols ++ more) w l) in
      rw (t, items_read r (at + w) more (field_after at w own (cols ++ more) l e)) (items_stand line is s)

  fields_read : (fs : List Field) (is : List Item) → Grouped fs → FieldsIn fs is line → Together (optional_items fs is) → ReadsFrom 0 fs is
  fields_read fs is g f t = fields_in_complete g.from g.past f 0 refl g.lie (leaves_whole g.from g.past line f g.lie t)

  taken_complete : (r : Row) (is : List Item) → ReadsFrom 0 r.fields is → breach r.condition is ≡ 0 → taken_refusal r line ≡ passed
  unfolding taken_refusal fields_refusal condition_fault
  taken_complete r is t k = rw (t.faultless, t.clear, t.items, k) refl

  -- a writing of items by a row is taken, and those items are read in it
  module _ (r : Row) (is : List Item) (g : Readable r) (t : Together (optional_items r.fields is)) (k : Kept r.condition is) where
    unfilled_complete : FieldsIn r.fields is line → (row_refusal r line ≡ passed) × (items_of r.fields 0 line ≡ is)
    unfolding row_refusal
    unfilled_complete f =
        let m : ℕ = span (padding_fields r) in
        let past : List ℕ = drop (span r.fields) line in
        let n = blanks_left (remainder_in r line) (drop m past) (rw (take-append-drop m past) (fields_past_blank f)) in
        let q = fields_read r.fields is (own_grouped r g.grouped) f t in
        (rw (taken_blank r line (all_blank_complete n)) (taken_complete r is q (kept_complete k)), q.items)

    filled_complete : (ps : List Item) → FieldsIn (with_padding r).fields (is ++ ps) line → all_blank (remainder_in r line) ≡ false → Fillable r → row_refusal r line ≡ passed
    unfolding row_refusal breach
    filled_complete ps f e h =
        let q = fields_read (with_padding r).fields (is ++ ps) g.grouped f (rw (h.required (is ++ ps)) (Together.blank AllBlank.nil)) in
        rw (taken_filled r line e) (taken_complete (with_padding r) (is ++ ps) q (rw h.free refl))

    columns_complete : {cols : List ℕ} → InColumns r is cols → cols ≡ line → (row_refusal r line ≡ passed) × (items_of r.fields 0 line ≡ is)
    columns_complete (InColumns.alone f) e = unfilled_complete (rw e at f)
    columns_complete (InColumns.padded own filled ps l f p) e = by (all_blank (remainder_in r line)) refl
      where
        whole : FieldsIn (with_padding r).fields (is ++ ps) line
        whole = rw e at (fields_in_join f l p)

        past : drop (span r.fields) line ≡ filled
        past = rw (← e) (drop_at own filled (span r.fields) l)

        by : (b : Bool) → all_blank (remainder_in r line) ≡ b → (row_refusal r line ≡ passed) × (items_of r.fields 0 line ≡ is)
        by true q =
            let n : Blanks filled = fields_blank p (rw past at (all_blank_sound (remainder_in r line) q)) in
            unfilled_complete (rw (append-nil r.fields, append-nil is, e) at (fields_in_join f l (rest n)))
        by false q =
            (⊎_elim (λ u. false_not_true (sym q ∙ remainder_none r line u)) (filled_complete ps whole q) g.filled, items_read f 0 filled (sym e))

  pub written_complete : (r : Row) (is : List Item) → Readable r → Written r is line → (row_refusal r line ≡ passed) × (items_of r.fields 0 line ≡ is)
  written_complete r is g w = columns_complete r is g w.together w.kept w.in_columns refl

  -- From check to writing.

  -- one field more in front, by its form
  fields_in_field : (f : Form) (w k : ℕ) (fs : List Field) (is : List Item) (own cols : List ℕ) → length own ≡ w
      → field_number f (may_blank f line) own ≡ 0 → stray_in f (k + 1) own ≡ 0 → FieldsIn fs is cols
      → FieldsIn (record { form = f; width = w } ∷ fs) (with_item f own is) (own ++ cols)
  fields_in_field skip w k fs is own cols l n c r = skipped own cols l (first_byte_sound (k + 1) own (omega arith) c) r
  fields_in_field text w k fs is own cols l n c r = stands own cols l (a_text (trimmed_sound own)) r
  fields_in_field identification w k fs is own cols l n c r = stands own cols l (identification_sound (may_blank identification line) own n) r
  fields_in_field real w k fs is own cols l n c r = stands own cols l (real_sound (may_blank real line) own n) r
  fields_in_field (integer u o) w k fs is own cols l n c r = stands own cols l (integer_sound line u o own n) r

  -- what is read from the column at on stands there
  fields_in_sound : (fs : List Field) (at : ℕ) → at + total (map (λ (f : Field). f.width) fs) ≤ 80
      → (fields_fault fs at line).number ≡ 0 → stray fs at line ≡ 0 → FieldsIn fs (items_of fs at line) (drop at line)
  unfolding fields_fault stray items_of total
  fields_in_sound [] at h n c = rest (rw (fields_past at) at (first_byte_sound (at + 1) (columns_of at 80 line) (omega arith) c))
  fields_in_sound (f ∷ fs) at h n c =
      let m = or_else_passed _ _ _ n in
      let d = or_column_none _ _ c in
      let own : List ℕ = take f.width (drop at line) in
      let t = fields_in_sound fs (at + f.width) (omega arith) m.1 d.1 in
      rw (field_join at f.width) at (fields_in_field f.form f.width at fs _ own _ (field_width at f.width (omega arith)) m.0 d.0 t)

  -- the same of fields with others after them
  fields_in_split : (fs gs : List Field) (at : ℕ) → at + span (fs ++ gs) ≤ 80 → (fields_fault (fs ++ gs) at line).number ≡ 0 → stray (fs ++ gs) at line ≡ 0
      → FieldsIn fs (items_of fs at line) (take (span fs) (drop at line)) × FieldsIn gs (items_of gs (at + span fs) line) (drop (at + span fs) line)
  unfolding fields_fault stray items_of total
  fields_in_split [] gs at h n c = (rest none, rw (add-zero at) (fields_in_sound gs at h n c))
  fields_in_split (f ∷ fs) gs at h n c =
      let m = or_else_passed _ _ _ n in
      let d = or_column_none _ _ c in
      let own : List ℕ = take f.width (drop at line) in
      let t = fields_in_split fs gs (at + f.width) (omega arith) m.1 d.1 in
      let w = field_width at f.width (omega (arith, span_append fs gs)) in
      let e : take (f.width + span fs) (drop at line) ≡ own ++ take (span fs) (drop (at + f.width) line) =
      take-add f.width (span fs) (drop at line) ∙ rw (drop-drop f.width at line) refl in
      let a : at + (f.width + span fs) ≡ at + f.width + span fs = omega arith in
      (rw e (fields_in_field f.form f.width at fs _ own _ w m.0 d.0 t.0), rw a t.1)

  -- the fields left of others pass where all do
  fault_left : (fs gs : List Field) (at : ℕ) → (fields_fault (fs ++ gs) at line).number ≡ 0 → (fields_fault fs at line).number ≡ 0
  unfolding fields_fault
  fault_left [] gs at n = refl
  fault_left (f ∷ fs) gs at n =
      let m = or_else_passed _ _ _ n in
      let e : field_number f.form (may_blank f.form line) (take f.width (drop at line)) ≡ 0 = m.0 in
      rw e (fault_left fs gs (at + f.width) m.1)

  -- a line that is taken is a writing of the items that are read in it
  module _ (r : Row) (fits : span (with_padding r).fields ≤ 80) (g : Readable r) where
    unfilled_sound : (taken_refusal r line).number ≡ 0 → Written r (items_of r.fields 0 line) line
    unfolding taken_refusal fields_refusal condition_fault
    unfilled_sound h =
        let c = or_else_passed _ _ _ h in
        let f = or_else_passed _ _ _ c.0 in
        let u = own_grouped r g.grouped in
        record {
          in_columns = InColumns.alone (fields_in_sound r.fields 0 (omega (arith, span_append r.fields (padding_fields r))) f.0 (stray_fault_passed _ f.1));
          together = together_read u.from u.past line r.fields u.lie f.0;
          kept = kept_sound r.condition _ (breach_fault_passed r.fields _ c.1);
        }

    filled_sound : (taken_refusal (with_padding r) line).number ≡ 0 → Fillable r → Written r (items_of r.fields 0 line) line
    unfolding taken_refusal fields_refusal condition_fault
    filled_sound h k =
        let c = or_else_passed _ _ _ h in
        let f = or_else_passed _ _ _ c.0 in
        let u = own_grouped r g.grouped in
        let t = fields_in_split r.fields (padding_fields r) 0 (omega arith) f.0 (stray_fault_passed _ f.1) in
        let s : 0 + span r.fields ≡ span r.fields = zero-add _ in
        let w = length-take-le (span r.fields) line (omega (arith, eighty, span_append r.fields (padding_fields r))) in
        let i : InColumns r (items_of r.fields 0 line) (take (span r.fields) line ++ drop (span r.fields) line) =
        InColumns.padded (take (span r.fields) line) (drop (span r.fields) line) _ w t.0 (rw s at t.1) in
        record {
          in_columns = rw (take-append-drop (span r.fields) line) at i;
          together = together_read u.from u.past line r.fields u.lie (fault_left r.fields (padding_fields r) 0 f.0);
          kept = rw k.free nothing;
        }

    pub written_sound : (row_refusal r line).number ≡ 0 → Written r (items_of r.fields 0 line) line
    unfolding row_refusal
    written_sound h = by (all_blank (remainder_in r line)) refl
      where
        by : (b : Bool) → all_blank (remainder_in r line) ≡ b → Written r (items_of r.fields 0 line) line
        by true q = unfilled_sound (rw (taken_blank r line q) at h)
        by false q =
            ⊎_elim (λ u. false_not_true (sym q ∙ remainder_none r line u)) (filled_sound (rw (taken_filled r line q) at h)) g.filled
