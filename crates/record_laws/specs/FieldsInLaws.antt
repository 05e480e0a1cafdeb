-- Items that stand in the columns of fields: two runs of fields one after the other, and fields that are all blank.
use Rattle.std.specs.Prelude.{◌≡◌, refl, List, [], ◌∷◌, ◌++◌, ℕ, ◌+◌, length, take}
use Rattle.std.proofs.Common.{sym, ◌∙◌, append_assoc, arith, zero-add, length-append, take-add, take_at, drop_at}
use Rattle.text.specs.Blank.{Blanks, none, one}
use Rattle.text.specs.BlankLaws.{blanks_append}
use Rattle.layout.specs.Columns.{total}
use Rattle.field.specs.Item.{Item}
use Rattle.record_table.specs.Row.{Field, Row, span}
use Rattle.record.specs.Written.{FieldsIn, rest, skipped, stands, InColumns}

pub span_append : (fs gs : List Field) → span (fs ++ gs) ≡ span fs + span gs
unfolding total
span_append [] gs = sym (zero-add _)
span_append (f ∷ fs) gs = let h : span (fs ++ gs) ≡ span fs + span gs = span_append fs gs in omega arith

-- fields whose columns are full to the last, and the fields after them
pub fields_in_join : {fs gs : List Field} {is ps : List Item} {own cols : List ℕ} → FieldsIn fs is own → length own ≡ span fs → FieldsIn gs ps cols
    → FieldsIn (fs ++ gs) (is ++ ps) (own ++ cols)
unfolding total
fields_in_join (rest none) l g = g
fields_in_join (rest (one b)) l g = absurd (omega arith)
fields_in_join {cols = cols} (skipped bl cs k b r) l g =
    rw (append_assoc bl cs cols) (skipped bl (cs ++ cols) k b (fields_in_join r (omega (arith, length-append bl cs)) g))
fields_in_join {cols = cols} (stands own cs k s r) l g =
    rw (append_assoc own cs cols) (stands own (cs ++ cols) k s (fields_in_join r (omega (arith, length-append own cs)) g))

-- blanks in two parts
pub blanks_left : (l m : List ℕ) → Blanks (l ++ m) → Blanks l
blanks_left [] m b = none
blanks_left (x ∷ l) m (one b) = one (blanks_left l m b)

blanks_right : (l m : List ℕ) → Blanks (l ++ m) → Blanks m
blanks_right [] m b = b
blanks_right (x ∷ l) m (one b) = blanks_right l m b

-- where the columns of all fields are blank, all columns are
take_past : (own cols : List ℕ) (w n : ℕ) → length own ≡ w → take (w + n) (own ++ cols) ≡ own ++ take n cols
take_past own cols w n l = take-add w n (own ++ cols) ∙ rw (take_at own cols w l, drop_at own cols w l) refl

pub fields_blank : {fs : List Field} {is : List Item} {cols : List ℕ} → FieldsIn fs is cols → Blanks (take (span fs) cols) → Blanks cols
unfolding total
fields_blank (rest b) n = b
fields_blank (skipped {w} {fs} bl cs k b r) n =
    let m = rw (take_past bl cs w (span fs) k) at n in
    blanks_append b (fields_blank r (blanks_right bl _ m))
fields_blank (stands {form} {w} {fs} own cs k s r) n =
    let m = rw (take_past own cs w (span fs) k) at n in
    blanks_append (blanks_left own _ m) (fields_blank r (blanks_right own _ m))

-- the items of a row's fields stand in columns, whatever is past them
pub own_fields : {r : Row} {is : List Item} {line : List ℕ} → InColumns r is line → (cols : List ℕ) × FieldsIn r.fields is cols
own_fields {line = line} (InColumns.alone f) = (line, f)
own_fields (InColumns.padded own filled ps l f p) = (own, f)
