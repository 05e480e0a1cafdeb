-- Which lines have padding. The last line of a 58 of a list as it stands in a text: it is that of the last stored number, which of its columns count, and that it
-- is no delimiter by these alone.
use Rattle.std.specs.Prelude.{◌≡◌, refl, Bool, true, false, List, [], ◌∷◌, ◌++◌, ℕ, zero, suc, ◌+◌, ◌-◌, ◌*◌, ◌≤◌, ◌<◌, eqb, ℤ, length, get_or, drop, replicate}
use Rattle.std.proofs.Common.{sym, ap, ◌∙◌, ⊎_elim, zero-mul, suc-mul, le-div_iff_mul-le, div-lt_iff_lt-mul, arith, eqb-true, drop_at, drop-drop, get_or-take, get_or-append-add, drop_of_length-le, length-append, length-take}
use Rattle.std.proofs.lemmas.List.{length-map}
use Rattle.laws.specs.Choice.{pick}
use Rattle.laws.specs.ChoiceLaws.{below_or_not}
use Rattle.text.specs.Blank.{Blanks, none, one}
use Rattle.text.specs.BlankLaws.{all_blank_complete, blanks_take, blanks_replicate}
use Rattle.real.specs.Spelling.{RealSpelling, spelled}
use Rattle.line.specs.Line.{columns, filled}
use Rattle.line.specs.LineLaws.{filled_short}
use Rattle.delimiter.specs.Kind.{Delimiter, delimiter}
use Rattle.layout.specs.Columns.{line_of, field_of, field_start, total}
use Rattle.layout.specs.ColumnsLaws.{stored_at, field_of_inside, field_start_next}
use Rattle.layout.specs.Layout.{layout_of, fields_of, numbers_of}
use Rattle.layout.specs.LayoutLaws.{fields_of_some, total_inside}
use Rattle.field.specs.Item.{Item}
use Rattle.record_table.specs.Row.{Field, span, filling, padding_fields, first_fields}
use Rattle.record_table.specs.Records.{plain, record_of, data_row}
use Rattle.record_table.specs.PaddingLaws.{record_of_unpadded, first_unpadded, data_padding}
use Rattle.record_table.specs.TypedSets.{header_lines}
use Rattle.record.specs.Written.{InColumns}
use Rattle.record.specs.TakenLaws.{span_first}
use Rattle.walk.specs.DueLaws.{data_row_length}
use Rattle.record_laws.specs.GroupLaws.{blanks_at}
use Rattle.theory.specs.Sets.{Set}
use Rattle.theory.specs.Proper.{SetLines}
use Rattle.theory.specs.Due.{lines_for, rows_holding, set_rows}
use Rattle.parts.specs.Parts.{Part, last_line}
use Rattle.parts.specs.Parts as Parts
use Rattle.parts.specs.Function as Function
use Rattle.parts.specs.Padding.{last_field, counted_past, remainder, padding_in, padding_of}
use Rattle.parts.specs.CountedLaws.{past_inside}
use Rattle.parts_laws.specs.Holds.{Holds}
use Rattle.parts_laws.specs.Declares.{declared, set_case}
use Rattle.parts_laws.specs.DeclaresLaws.{case_held, declared_held}
use Rattle.parts_laws.specs.Stored.{stored_count}
use Rattle.parts_laws.specs.StoredLaws.{number_rows_at, number_rows_length, line_enough, data_row_lem, data_field_lem, lists_58, set_data, stored_case}

-- a line before the last is full, and has no padding
rows_left_lem : (n left k : ℕ) → suc k < lines_for n left → n ≤ left - k * n
unfolding lines_for
rows_left_lem n left k h = ⊎_elim full (λ (z : n ≤ 0). omega arith) (below_or_not 0 n)
  where
    full : 0 < n → n ≤ left - k * n
    full p =
        let m : suc (suc k) * n ≤ left + (n - 1) = (le-div_iff_mul-le p).0 h in
        omega (arith, suc-mul (suc k) n, suc-mul k n)

pub full_unpadded : (c left k : ℕ) → suc k < length (rows_holding (data_row c) left) → padding_fields (get_or (rows_holding (data_row c) left) k (plain [])) ≡ []
full_unpadded c left k h =
    let fs : List Field = (data_row c).fields in
    let n : ℕ = length fs in
    let m : length (rows_holding (data_row c) left) ≡ lines_for n left = number_rows_length (data_row c) (lines_for n left) left in
    let l : n ≤ left - k * n = rows_left_lem n left k (omega arith) in
    ap padding_fields (number_rows_at (data_row c) (lines_for n left) left k (omega arith)) ∙ data_padding (left - k * n) c ∙ drop_of_length-le fs l

-- nor has any other record, however it is cut
pub record_unpadded : (n k : ℕ) → padding_fields (first_fields n (record_of k)) ≡ []
record_unpadded n k = ap filling (first_unpadded n (record_of k) (record_of_unpadded k))

-- as many numbers are stored in the text as in the list
stored_if : (t : Bool) (n a b : ℕ) → (t ≡ true → a ≡ b) → pick t n 0 * numbers_of a ≡ pick t n 0 * numbers_of b
stored_if true n a b h = rw (h refl) refl
stored_if false n a b h = rw (zero-mul (numbers_of a), zero-mul (numbers_of b)) refl

pub stored_held : {s : Set} {p : Part} → Holds s p → Function.stored_of p ≡ stored_count s
unfolding Function.stored_of stored_count declared
stored_held {s} {p} h = rw (declared_held h) (stored_if (eqb s.number 58) _ (Function.part_case p) (set_case s) (λ e. case_held h (eqb-true s.number 58 e)))

-- the last of so many numbers stands on the last of their lines
last_most : (n t : ℕ) → 0 < n → 0 < t → lines_for n t < suc (suc (line_of n (t - 1)))
unfolding lines_for
last_most n t p h =
    let s : line_of n (t - 1) * n + field_of n (t - 1) ≡ t - 1 = stored_at n (t - 1) in
    let f : field_of n (t - 1) < n = field_of_inside n (t - 1) p in
    let m : t + (n - 1) < suc (suc (line_of n (t - 1))) * n = rw (suc-mul, suc-mul) (omega arith) in
    (div-lt_iff_lt-mul p).1 m

pub last_of : (n t : ℕ) → 0 < n → 0 < t → lines_for n t ≡ suc (line_of n (t - 1))
last_of n t p h = omega (arith, line_enough n t (t - 1) p (omega arith), last_most n t p h)

pub last_line_lem : {s : Set} {css : List (List ℕ)} → SetLines s css → s.number ≡ 58 → 0 < stored_count s
    → length css - 1 ≡ header_lines + line_of (fields_of (set_case s)) (stored_count s - 1)
last_line_lem {s} {css} h e some =
    let c : length css ≡ header_lines + lines_for (fields_of (set_case s)) (stored_count s) = (set_data h e).count in
    let l : lines_for (fields_of (set_case s)) (stored_count s) ≡ suc (line_of (fields_of (set_case s)) (stored_count s - 1))
    = last_of (fields_of (set_case s)) (stored_count s) (fields_of_some (set_case s) (stored_case s 0 some)) some in
    omega arith

pub last_held : {s : Set} {p : Part} → Holds s p → s.number ≡ 58 → 0 < stored_count s
    → last_line p ≡ header_lines + line_of (fields_of (set_case s)) (stored_count s - 1)
last_held {s} {p} h e some = rw (length-map p.body (columns true)) at (last_line_lem h.lines e some)

-- it is written by the fields up to that of the last stored number, which are the columns that count
pub last_row : (s : Set) → s.number ≡ 58 → 0 < stored_count s
    → get_or (set_rows s.number s.lines) (header_lines + line_of (fields_of (set_case s)) (stored_count s - 1)) (plain [])
    ≡ first_fields (suc (last_field (set_case s) (stored_count s))) (data_row (set_case s))
unfolding last_field
last_row s e some =
    let n : ℕ = fields_of (set_case s) in
    let t : ℕ = stored_count s in
    let q : line_of n (t - 1) * n + field_of n (t - 1) ≡ t - 1 = stored_at n (t - 1) in
    let m : t - line_of n (t - 1) * n ≡ suc (field_of n (t - 1)) = omega arith in
    let d : line_of n (t - 1) < lines_for n t = line_enough n t (t - 1) (fields_of_some (set_case s) (stored_case s 0 some)) (omega arith) in
    ap (λ (k : ℕ). get_or (set_rows k s.lines) (header_lines + line_of n (t - 1)) (plain [])) e
    ∙ (rw (data_row_length (set_case s), m) at (data_row_lem s.lines (set_case s) t (lists_58 s e) (line_of n (t - 1)) (rw (data_row_length (set_case s)) d)))

pub counted_span : (c n : ℕ) → span (first_fields (suc (last_field c n)) (data_row c)).fields ≡ counted_past c n
unfolding data_row counted_past
counted_span c n = span_first (suc (last_field c n)) (layout_of c).widths ∙ field_start_next (layout_of c).widths (last_field c n)

-- a data line is no delimiter: a real has a point
real_point : {n : Bool} {c : ℕ} {s : ℤ} {cols : List ℕ} → RealSpelling n c s cols → ((k : ℕ) → k < length cols → get_or cols k 32 ≡ 46 → ⊥) → ⊥
real_point (spelled bl sg whole part exponent b g d l m x) f =
    let rest : List ℕ = 46 ∷ (part ++ exponent) in
    f (length bl + (length sg + (length whole + 0)))
    (omega (arith, length-append bl (sg ++ (whole ++ rest)), length-append sg (whole ++ rest), length-append whole rest))
    (get_or-append-add bl (sg ++ (whole ++ rest)) (length sg + (length whole + 0)) 32
    ∙ get_or-append-add sg (whole ++ rest) (length whole + 0) 32
    ∙ get_or-append-add whole rest 0 32)

delimiter_pointless : {line : List ℕ} → Delimiter line → (k : ℕ) → get_or line k 32 ≡ 46 → ⊥
delimiter_pointless (delimiter b) zero e = omega arith
delimiter_pointless (delimiter b) (suc zero) e = omega arith
delimiter_pointless (delimiter b) (suc (suc zero)) e = omega arith
delimiter_pointless (delimiter b) (suc (suc (suc zero))) e = omega arith
delimiter_pointless (delimiter b) (suc (suc (suc (suc zero)))) e = omega arith
delimiter_pointless (delimiter b) (suc (suc (suc (suc (suc zero))))) e = omega arith
delimiter_pointless (delimiter b) (suc (suc (suc (suc (suc (suc k)))))) e = omega (arith, blanks_at k b)

first_start : (ws : List ℕ) → field_start ws 0 ≡ 0
unfolding field_start
first_start [] = refl
first_start (w ∷ ws) = refl

pub data_inside : (c m : ℕ) → c < 8 → {is : List Item} {line : List ℕ} → InColumns (first_fields (suc m) (data_row c)) is line → Delimiter line → ⊥
data_inside c m below {is} {line} w d =
    let ws : List ℕ = (layout_of c).widths in
    let first = rw (first_start ws) at (data_field_lem c (suc m) 0 (omega arith) (fields_of_some c below) w) in
    real_point first.spelling
    (λ k h e. delimiter_pointless d k (sym (get_or-take (get_or ws 0 0) line k 32 (omega (arith, h, length-take (get_or ws 0 0) line))) ∙ e))

-- a line that ends with its last counted column at the latest has no padding
blanks_drop : {l : List ℕ} (m : ℕ) → Blanks l → Blanks (drop m l)
blanks_drop zero b = b
blanks_drop (suc m) none = none
blanks_drop (suc m) (one b) = blanks_drop m b

pub blank_past_lem : (cs : List ℕ) (k : ℕ) → length cs ≤ k → length cs ≤ 80 → Blanks (drop k (filled cs))
blank_past_lem cs k h s =
    let z : length cs + (k - length cs) ≡ k = omega arith in
    let b : Blanks (drop (k - length cs) (drop (length cs) (cs ++ replicate (80 - length cs) 32)))
    = rw (drop_at cs (replicate (80 - length cs) 32) (length cs) refl) (blanks_drop (k - length cs) (blanks_replicate (80 - length cs))) in
    rw (filled_short cs s) (rw (drop-drop, z) at b)

pub ended_unpadded : (p : Part) → length (columns true (get_or p.body (last_line p) [])) ≤ counted_past (Function.part_case p) (Function.stored_of p)
    → padding_of p ≡ 0
unfolding padding_of padding_in remainder Parts.line_of
ended_unpadded p h =
    let k : ℕ = counted_past (Function.part_case p) (Function.stored_of p) in
    let cs : List ℕ = columns true (get_or p.body (last_line p) []) in
    let within : length cs ≤ 80 = omega (arith, past_inside (Function.part_case p) (Function.stored_of p), total_inside (Function.part_case p)) in
    let blank = all_blank_complete (blanks_take (total (layout_of (Function.part_case p)).widths - k) (blank_past_lem cs k h within)) in
    rw blank (pick_same (eqb (Function.stored_of p) 0))
  where
    pick_same : (t : Bool) → ◌≡◌ {A = ℕ} (pick t 0 0) 0
    pick_same true = refl
    pick_same false = refl
