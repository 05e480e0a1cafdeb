-- One field of a line of reals: the item in its columns, and its spelling there.
use Rattle.std.specs.Prelude.{◌≡◌, refl, List, [], ◌∷◌, ◌++◌, map, ℕ, zero, suc, ◌<◌, length, get_or, take, drop}
use Rattle.std.proofs.Common.{ap, ◌∙◌, arith, take_at, drop_at, drop-drop}
use Rattle.codes.specs.Form.{Form, skip, text, identification, real, integer}
use Rattle.layout.specs.Columns.{field_start}
use Rattle.field.specs.Item.{Item}
use Rattle.record_table.specs.Row.{Field}
use Rattle.record_table.specs.Records.{E}
use Rattle.record.specs.Written.{Stands, a_text, a_identification, an_integer, a_blank, a_real, FieldsIn, rest, skipped, stands}
use Rattle.parts_laws.specs.Field.{Spelled}

-- 0 for a real, 1 for any other form
abbrev other : Form → ℕ
other skip = 1
other text = 1
other identification = 1
other real = 0
other (integer r o) = 1

pub not_real : {A : Type 0} (f : Field) (fs gs : List Field) (w : ℕ) → f ∷ fs ≡ E w ∷ gs → other f.form ≡ 1 → A
not_real f fs gs w e o =
    let q : f ≡ E w = cc in
    let z : other f.form ≡ 0 = ap (λ (x : Field). other x.form) q in
    absurd (omega arith)

stands_real : (f : Form) (i : Item) (cols : List ℕ) → Stands f i cols → other f ≡ 0 → Spelled i cols
stands_real f i cols (a_text t) z = absurd (omega arith)
stands_real f i cols (a_identification t n) z = absurd (omega arith)
stands_real f i cols (an_integer s l k) z = absurd (omega arith)
stands_real f i cols (a_blank b) z = absurd (omega arith)
stands_real f i cols (a_real {n} {c} {s} r) z = record { minus = n; coefficient = c; scale = s; item = refl; spelling = r }

-- field k of reals of these widths
pub field_at : {fs : List Field} {is : List Item} {cols : List ℕ} (ws : List ℕ) (k : ℕ) → FieldsIn fs is cols → fs ≡ map E ws → k < length ws
    → Spelled (get_or is k Item.blank) (take (get_or ws k 0) (drop (field_start ws k) cols))
unfolding field_start
field_at [] k f e h = absurd (omega arith)
field_at (w ∷ ws) k (rest b) e h = let z : 0 ≡ suc (length (map E ws)) = ap length e in absurd (omega arith)
field_at (w ∷ ws) k (skipped {fs = fs} bl cols l b r) e h = not_real _ fs (map E ws) w e refl
field_at (w ∷ ws) zero (stands {form = form} {w = v} {fs = fs} {i = i} own cols l s r) e h =
    let q : record { form = form; width = v } ≡ E w = cc in
    let z : other form ≡ 0 = ap (λ (x : Field). other x.form) q in
    let y : v ≡ w = ap (λ (x : Field). x.width) q in
    rw (take_at own cols w (l ∙ y)) (stands_real form i own s z)
field_at (w ∷ ws) (suc k) (stands {form = form} {w = v} {fs = fs} {i = i} {is = is} own cols l s r) e h =
    let t : fs ≡ map E ws = cc in
    let q : record { form = form; width = v } ≡ E w = cc in
    let y : v ≡ w = ap (λ (x : Field). x.width) q in
    rw (← (drop-drop (field_start ws k) w (own ++ cols)), drop_at own cols w (l ∙ y)) (field_at ws k r t (omega arith))
