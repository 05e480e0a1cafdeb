-- The stored numbers of a 58 of a list are spelled in their own columns of its lines.
use Rattle.std.specs.Prelude.{◌≡◌, List, [], ◌∷◌, ◌++◌, map, ℕ, zero, suc, ◌+◌, ◌-◌, ◌*◌, ◌<◌, ◌≤◌, get_or, take, drop}
use Rattle.std.proofs.Math.Path.{refl}
use Rattle.std.proofs.Common.{sym, ap, subst, ◌∙◌, ⊎_elim, le-div_iff_mul-le, suc-mul, zero-mul, mul-zero, arith, le-ltb, length-drop, get_or-take}
use Rattle.std.proofs.Math.ListN.{length, length-append, length-take}
use Rattle.std.proofs.Math.Seq.{get_or-append-add}
use Rattle.std.proofs.lemmas.List.{drop-append-le, take-append-le}
use Rattle.laws.specs.ChoiceLaws.{false_not_true, below_or_not}
use Rattle.line.specs.Line.{filled}
use Rattle.layout.specs.Columns.{field_start, field_past, total, line_of, field_of}
use Rattle.layout.specs.ColumnsLaws.{field_past_total, field_of_inside, stored_at}
use Rattle.layout.specs.Layout.{layout_of, fields_of, numbers_of}
use Rattle.layout.specs.LayoutLaws.{fields_of_some}
use Rattle.field.specs.Item.{Item}
use Rattle.record_table.specs.Row.{Field, Row, span, first_fields}
use Rattle.record_table.specs.TypedSets.{kind_of, sequence, typed_sets, header_lines, kind58, following}
use Rattle.record_table.specs.Records.{E, plain, record_of, data_row}
use Rattle.record.specs.Written.{FieldsIn, InColumns, Written}
use Rattle.record.specs.Declares.{stored_by}
use Rattle.walk.specs.DueLaws.{data_row_length}
use Rattle.theory.specs.Sets.{Set}
use Rattle.theory.specs.Due.{lines_for, number_rows, rows_holding, lists_of, set_rows}
use Rattle.theory.specs.Proper.{TypedLines, SetLines}
use Rattle.parts.specs.Parts as Parts
use Rattle.parts_laws.specs.Holds.{Holds}
use Rattle.parts_laws.specs.Declares.{declared, set_case}
use Rattle.parts_laws.specs.DeclaresLaws.{typed_line, typed_length, typed_58, line_of_columns}
use Rattle.parts_laws.specs.Stored.{stored_count, stored_item, own_columns, DataLines}
use Rattle.parts_laws.specs.Field.{Spelled}
use Rattle.parts_laws.specs.FieldLaws.{field_at}

-- row k of the lines that hold what is left
pub number_rows_at : (r : Row) (m left k : ℕ) → k < m → get_or (number_rows r m left) k (plain []) ≡ first_fields (left - k * length r.fields) r
unfolding number_rows
number_rows_at r zero left k h = absurd (omega arith)
number_rows_at r (suc m) left zero h = let z : left - 0 * length r.fields ≡ left = rw zero-mul (omega arith) in rw z refl
number_rows_at r (suc m) left (suc k) h =
    let z : left - length r.fields - k * length r.fields ≡ left - suc k * length r.fields = rw suc-mul (omega arith) in
    number_rows_at r m (left - length r.fields) k (omega arith) ∙ rw z refl

pub number_rows_length : (r : Row) (m left : ℕ) → length (number_rows r m left) ≡ m
unfolding number_rows
number_rows_length r zero left = refl
number_rows_length r (suc m) left = ap suc (number_rows_length r m (left - length r.fields))

-- a number that is stored has its line
pub line_enough : (n total j : ℕ) → 0 < n → j < total → line_of n j < lines_for n total
unfolding lines_for
line_enough n total j p h =
    let s : line_of n j * n + field_of n j ≡ j = stored_at n j in
    let m : suc (line_of n j) * n ≤ total + (n - 1) = rw suc-mul (omega arith) in
    (le-div_iff_mul-le p).1 m

-- the rows of a 58: its eleven records, then its data lines
module _ (iss : List (List Item)) (c total : ℕ) (e : lists_of kind58 iss ≡ rows_holding (data_row c) total) where
  pub data_row_lem : (k : ℕ) → k < lines_for (length (data_row c).fields) total → get_or (set_rows 58 iss) (header_lines + k) (plain []) ≡ first_fields (total - k * length (data_row c).fields) (data_row c)
  unfolding set_rows kind_of sequence typed_sets
  data_row_lem k h =
      get_or-append-add (map record_of (sequence kind58)) (lists_of kind58 iss) k (plain [])
      ∙ rw e (number_rows_at (data_row c) (lines_for (length (data_row c).fields) total) total k h)

  data_rows : (k : ℕ) → k < lines_for (length (data_row c).fields) total → header_lines + k < length (set_rows 58 iss)
  unfolding set_rows kind_of sequence typed_sets
  data_rows k h = rw (length-append (map record_of (sequence kind58)) (lists_of kind58 iss), e, number_rows_length) (omega arith)

-- the first fields of a line of reals
pub map_take : (m : ℕ) (ws : List ℕ) → take m (map E ws) ≡ map E (take m ws)
map_take zero ws = refl
map_take (suc m) [] = refl
map_take (suc m) (w ∷ ws) = ap (◌∷◌ (E w)) (map_take m ws)

pub field_start_take : (m k : ℕ) (ws : List ℕ) → k ≤ m → field_start (take m ws) k ≡ field_start ws k
unfolding field_start
field_start_take m zero ws h = refl
field_start_take zero (suc k) ws h = absurd (omega arith)
field_start_take (suc m) (suc k) [] h = refl
field_start_take (suc m) (suc k) (w ∷ ws) h = ap (◌+◌ w) (field_start_take m k ws (omega arith))

-- no number is stored past the eight cases
case_below : (c n j : ℕ) → j < n * numbers_of c → c < 8
unfolding numbers_of
case_below c n j h = ⊎_elim (λ l. l) (λ l. let z : j < n * 0 = rw (le-ltb c 8 l) at h in absurd (omega (arith, mul-zero n))) (below_or_not c 8)

-- the columns of reals of these widths
span_reals : (ws : List ℕ) → span (map E ws) ≡ total ws
unfolding total
span_reals [] = refl
span_reals (w ∷ ws) = rw (span_reals ws) refl

-- columns of the first of two parts
left_columns : (own more : List ℕ) (s w : ℕ) → s + w ≤ length own → take w (drop s (own ++ more)) ≡ take w (drop s own)
left_columns own more s w h =
    ap (take w) (drop-append-le s own more (omega arith)) ∙ take-append-le w (drop s own) more (omega (arith, length-drop s own))

-- a field of a data line
module _ (c m k : ℕ) (h : k < m) (l : k < fields_of c) where
  abbrev ws : List ℕ
  ws = (layout_of c).widths

  some_field : {fs : List Field} {is : List Item} {cols : List ℕ} → FieldsIn fs is cols → fs ≡ take m (map E ws)
      → Spelled (get_or is k Item.blank) (take (get_or ws k 0) (drop (field_start ws k) cols))
  unfolding fields_of
  some_field f e =
      let b : k < length (take m ws) = omega (arith, length-take m ws) in
      rw (get_or-take m ws k 0 h, field_start_take m k ws (omega arith)) at (field_at (take m ws) k f (e ∙ map_take m ws) b)

  -- it lies left of the padding
  field_left : field_start ws k + get_or ws k 0 ≤ span (take m (map E ws))
  unfolding field_past fields_of
  field_left =
      let p = field_past_total (take m ws) k in
      rw (map_take m ws, span_reals (take m ws)) (rw (get_or-take m ws k 0 h, field_start_take m k ws (omega arith)) at p)

  pub data_field_lem : {is : List Item} {line : List ℕ} → InColumns (first_fields m (data_row c)) is line
      → Spelled (get_or is k Item.blank) (take (get_or ws k 0) (drop (field_start ws k) line))
  unfolding data_row
  data_field_lem (InColumns.alone f) = some_field f refl
  data_field_lem (InColumns.padded own more ps e f p) =
      rw (left_columns own more (field_start ws k) (get_or ws k 0) (omega (arith, e, field_left))) (some_field f refl)

-- the lists of a 58
pub lists_58 : (s : Set) → s.number ≡ 58 → lists_of kind58 s.lines ≡ rows_holding (data_row (set_case s)) (stored_count s)
unfolding lists_of following typed_sets stored_count declared set_case stored_by
lists_58 s e = rw e refl

pub stored_case : (s : Set) (j : ℕ) → j < stored_count s → set_case s < 8
unfolding stored_count
stored_case s j h = case_below (set_case s) (declared s) j h

-- the data lines of a 58: the rows that write them, and how many they are
module _ (iss : List (List Item)) (css : List (List ℕ)) (c total : ℕ) (e : lists_of kind58 iss ≡ rows_holding (data_row c) total) (l : TypedLines (set_rows 58 iss) iss css) where
  typed_data : (k : ℕ) → k < lines_for (fields_of c) total → Written (first_fields (total - k * fields_of c) (data_row c)) (get_or iss (header_lines + k) []) (filled (get_or css (header_lines + k) []))
  typed_data k h =
      let m : k < lines_for (length (data_row c).fields) total = rw (data_row_length c) h in
      let w = typed_line (header_lines + k) l (data_rows iss c total e k m) in
      rw (data_row_length c) at (subst (λ (r : Row). Written r (get_or iss (header_lines + k) []) (filled (get_or css (header_lines + k) []))) (data_row_lem iss c total e k m) w)

  typed_count : length css ≡ header_lines + lines_for (fields_of c) total
  unfolding set_rows kind_of sequence typed_sets
  typed_count =
      typed_length l ∙ length-append (map record_of (sequence kind58)) (lists_of kind58 iss)
      ∙ rw (e, number_rows_length (data_row c) (lines_for (length (data_row c).fields) total) total, data_row_length c) refl

pub set_data : {s : Set} {css : List (List ℕ)} → SetLines s css → s.number ≡ 58 → DataLines s css
set_data {s} (SetLines.typed {n} {iss} {css} t l) e =
    record { written = typed_data iss css (set_case s) (stored_count s) (lists_58 s e) (rw e at l); count = typed_count iss css (set_case s) (stored_count s) (lists_58 s e) (rw e at l) }
set_data (SetLines.plain {n} t l) e = false_not_true (sym (rw e at t) ∙ typed_58)

-- a stored number is a real, spelled in its own columns
pub stored_spelled : {s : Set} {p : Parts.Part} → Holds s p → s.number ≡ 58 → (j : ℕ) → j < stored_count s → Spelled (stored_item s j) (own_columns (set_case s) p j)
unfolding own_columns stored_item
stored_spelled {s} {p} h e j l =
    let n : ℕ = fields_of (set_case s) in
    let b : 0 < fields_of (set_case s) = fields_of_some (set_case s) (stored_case s j l) in
    let k : ℕ = line_of (fields_of (set_case s)) j in
    let d = set_data h.lines e in
    let q : line_of (fields_of (set_case s)) j * fields_of (set_case s) + field_of (fields_of (set_case s)) j ≡ j = stored_at (fields_of (set_case s)) j in
    rw (line_of_columns p (header_lines + line_of (fields_of (set_case s)) j))
    (data_field_lem (set_case s) (stored_count s - k * n) (field_of n j) (omega arith) (field_of_inside (fields_of (set_case s)) j b)
    (d.written k (line_enough n (stored_count s) j b l)).in_columns)
