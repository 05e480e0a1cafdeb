-- Every byte of a data line that is no blank lies in the columns of a field of the full line.
use Rattle.std.specs.Prelude.{◌≡◌, refl, List, [], ◌∷◌, map, ℕ, suc, ◌-◌, ◌<◌, ◌≤◌, length, get_or, take}
use Rattle.std.proofs.Common.{ap, ◌∙◌, ⊎_elim, arith, length-take, get_or-take}
use Rattle.laws.specs.ChoiceLaws.{below_or_not}
use Rattle.layout.specs.Columns.{field_start, field_past}
use Rattle.layout.specs.Layout.{layout_of}
use Rattle.field.specs.Item.{Item}
use Rattle.record_table.specs.Row.{Field, first_fields}
use Rattle.record_table.specs.Records.{E, data_row}
use Rattle.record_table.specs.PaddingLaws.{data_full}
use Rattle.record.specs.Written.{FieldsIn, rest, skipped, stands, InColumns}
use Rattle.record_laws.specs.FieldsInLaws.{fields_in_join}
use Rattle.record_laws.specs.GroupLaws.{blanks_at, get_d_later}
use Rattle.parts_laws.specs.FieldLaws.{not_real}
use Rattle.parts_laws.specs.StoredLaws.{map_take, field_start_take}
use Rattle.parts_laws.specs.Cover.{Covers}

covers_later : (w : ℕ) (ws : List ℕ) (a : ℕ) → w ≤ a → Covers ws (a - w) → Covers (w ∷ ws) a
unfolding field_start field_past
covers_later w ws a h c = record { field = suc c.field; some = omega (arith, c.some); from = omega (arith, c.from); past = omega (arith, c.past) }

covers_first : (w : ℕ) (ws : List ℕ) (a : ℕ) → a < w → Covers (w ∷ ws) a
unfolding field_start field_past
covers_first w ws a h = record { field = 0; some = omega arith; from = omega arith; past = omega arith }

covered : {fs : List Field} {is : List Item} {cols : List ℕ} (ws : List ℕ) → FieldsIn fs is cols → fs ≡ map E ws → (a : ℕ) → (get_or cols a 32 ≡ 32 → ⊥) → Covers ws a
covered ws (rest b) e a n = absurd (n (blanks_at a b))
covered [] (skipped {fs = fs} bl cols l b r) e a n = let z : suc (length fs) ≡ 0 = ap length e in absurd (omega arith)
covered (w ∷ ws) (skipped {fs = fs} bl cols l b r) e a n = not_real _ fs (map E ws) w e refl
covered [] (stands {fs = fs} own cols l s r) e a n = let z : suc (length fs) ≡ 0 = ap length e in absurd (omega arith)
covered (w ∷ ws) (stands {form = form} {w = v} {fs = fs} own cols l s r) e a n =
    let q : record { form = form; width = v } ≡ E w = cc in
    let y : v ≡ w = ap (λ (x : Field). x.width) q in
    let t : fs ≡ map E ws = cc in
    ⊎_elim (covers_first w ws a)
    (λ (h : w ≤ a). covers_later w ws a h (covered ws r t (a - w) (λ z. n (get_d_later own cols w a (l ∙ y) h ∙ z))))
    (below_or_not a w)

-- the columns of the first m fields
first_covers : (m : ℕ) (ws : List ℕ) (a : ℕ) → Covers (take m ws) a → Covers ws a
unfolding field_past
first_covers m ws a k =
    let b : k.field < m = omega (arith, k.some, length-take m ws) in
    let d : k.field < length ws = omega (arith, k.some, length-take m ws) in
    let s : field_start (take m ws) k.field ≡ field_start ws k.field = field_start_take m k.field ws (omega arith) in
    let g : get_or (take m ws) k.field 0 ≡ get_or ws k.field 0 = get_or-take m ws k.field 0 b in
    record { field = k.field; some = d; from = omega (arith, k.from); past = omega (arith, k.past) }

-- of a data line on which m numbers are due: of one of these, or of its padding
pub data_covered : (c m : ℕ) {is : List Item} {line : List ℕ} → InColumns (first_fields m (data_row c)) is line → (a : ℕ) → (get_or line a 32 ≡ 32 → ⊥)
    → Covers (layout_of c).widths a
unfolding data_row
data_covered c m (InColumns.alone f) a n =
    let ws : List ℕ = (layout_of c).widths in
    first_covers m ws a (covered (take m ws) f (map_take m ws) a n)
data_covered c m (InColumns.padded own filled ps l f p) a n = covered (layout_of c).widths (fields_in_join f l p) (data_full m c) a n
