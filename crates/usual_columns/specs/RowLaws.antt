-- The columns of a row, said once over its widths: where its fields begin, and that a line which fits them is refused for nothing by its row.
use Rattle.std.specs.Prelude.{◌≡◌, ℕ, zero, suc, ◌+◌, ◌-◌, ◌<◌, ◌≤◌, Bool, true, false, ◌&&◌, List, [], ◌∷◌, ◌++◌, map, length, take, drop, replicate, ◌==◌, slice_index}
use Rattle.std.proofs.Math.Path.{refl, sym, ap}
use Rattle.std.proofs.Common.{◌∙◌, le_of_suc-le-suc, not-suc-le-zero, add-one, arith, ne_eqb, take-append-drop, take_at, take_all, drop_at, drop-drop}
use mathlib.Core.List.{append_assoc, append-nil}
use Rattle.std.proofs.Math.ListN.{length-append, length-replicate}
use Rattle.laws.specs.Cut.{line_len}
use Rattle.text.specs.Blank.{Blanks}
use Rattle.text.specs.BlankLaws.{all_blank_complete, blanks_take}
use Rattle.line.specs.Line.{passed, Allowed}
use Rattle.line.specs.LineLaws.{allowed_append}
use Rattle.delimiter.specs.Kind.{is_delimiter, then_blank}
use Rattle.layout.specs.Columns.{field_start, field_past, total}
use Rattle.layout.specs.ColumnsLaws.{field_past_total, field_start_next}
use Rattle.real.specs.Spelling.{Letter}
use Rattle.field.specs.Field.{may_blank, field_number}
use Rattle.record_table.specs.Row.{Field}
use Rattle.record_table.specs.Records.{E}
use Rattle.record.specs.Check.{fields_fault, stray_in, stray, fields_refusal}
use Rattle.record.specs.CheckLaws.{first_byte_blank, fields_refusal_passed}
use Rattle.usual_columns.specs.declared.Cell.{Cell}
use Rattle.usual_columns.specs.declared.Tables.{Tables}
use Rattle.usual_columns.specs.Cells.{blank, digit, any, start_cells, exponent_cells, field_cells, row_cells, line_cells, table_cells, Wide, Fits, tables, Laid, Grown, Passed}
use Rattle.usual_columns.specs.CellsLaws.{grown_none, grown_on, grown_digits, fits_split, fits_length, fits_passed}
use Rattle.usual_columns.specs.FieldLaws.{Third, third, field_holds, line_len_allowed, field_allowed, field_third}

-- a field has as many columns as it is wide
pub field_length : (b m w : ℕ) → 9 ≤ w → length (field_cells b m w) ≡ w
unfolding field_cells
field_length b m w h =
    let n : length (replicate (w - 8) digit ++ exponent_cells b m) ≡ w - 8 + 4
    = length-append (replicate (w - 8) digit) (exponent_cells b m) ∙ rw (length-replicate (w - 8) digit) refl in
    omega arith

-- its first columns and its exponent, with digits between
pub field_grown : (b m at w past : ℕ) (t u v : Tables) → at + w ≤ 80 → 9 ≤ w → past ≡ at + w - 4 → Grown at start_cells t u → Grown past (exponent_cells b m) u v
    → Grown at (field_cells b m w) t v
unfolding field_cells
field_grown b m at w past t u v high low e g h =
    let n : past ≡ at + 4 + length (replicate (w - 8) digit) = rw (length-replicate (w - 8) digit) (omega arith) in
    grown_on at start_cells (replicate (w - 8) digit ++ exponent_cells b m) t u v (at + 4) refl g
    (grown_on (at + 4) (replicate (w - 8) digit) (exponent_cells b m) u u v past n (grown_digits u (at + 4) (w - 8) (omega arith)) h)

-- the fields before field k end where it begins
pub row_start : (b m : ℕ) {ws : List ℕ} (k : ℕ) → Wide ws → length (row_cells b m (take k ws)) ≡ field_start ws k
unfolding row_cells field_start
row_start b m zero h = refl
row_start b m (suc k) Wide.none = refl
row_start b m (suc k) (Wide.more {w} {ws} low high h) =
    length-append (field_cells b m w) (row_cells b m (take k ws)) ∙ rw (field_length b m w low, row_start b m k h) refl

pub row_length : (b m : ℕ) {ws : List ℕ} → Wide ws → length (row_cells b m ws) ≡ total ws
unfolding row_cells total
row_length b m Wide.none = refl
row_length b m (Wide.more {w} {ws} low high h) = length-append (field_cells b m w) (row_cells b m ws) ∙ rw (field_length b m w low, row_length b m h) refl

-- one field more
row_suc : (b m : ℕ) (ws : List ℕ) (k : ℕ) → k < length ws → row_cells b m (take (suc k) ws) ≡ row_cells b m (take k ws) ++ field_cells b m (slice_index ws k)
unfolding row_cells
row_suc b m [] k h = absurd (not-suc-le-zero h)
row_suc b m (w ∷ ws) zero h = append-nil (field_cells b m w)
row_suc b m (w ∷ ws) (suc k) h =
    ap (λ (l : List Cell). field_cells b m w ++ l) (row_suc b m ws k (le_of_suc-le-suc h))
    ∙ sym (append_assoc (field_cells b m w) (row_cells b m (take k ws)) (field_cells b m (slice_index ws k)))

pub row_next : (b m : ℕ) (ws : List ℕ) (k : ℕ) → k < length ws → row_cells b m (take (k + 1) ws) ≡ row_cells b m (take k ws) ++ field_cells b m (slice_index ws k)
row_next b m ws k h = rw (add-one k) (row_suc b m ws k h)

-- a loop over the widths: none, one more, all
module _ (b m : ℕ) (ws : List ℕ) (t : Tables) where
  pub row_grown_none : Grown 0 (row_cells b m (take 0 ws)) t t
  unfolding row_cells
  row_grown_none = grown_none 0 t

  pub row_grown_next : (k at w : ℕ) (u v : Tables) → Wide ws → k < length ws → at ≡ field_start ws k → w ≡ slice_index ws k → Grown 0 (row_cells b m (take k ws)) t u
      → Grown at (field_cells b m w) u v → Grown 0 (row_cells b m (take (k + 1) ws)) t v
  row_grown_next k at w u v wide h e f g i =
      rw (row_next b m ws k h, ← f)
      (grown_on 0 (row_cells b m (take k ws)) (field_cells b m w) t u v at (rw (row_start b m k wide) (omega arith)) g i)

  pub row_grown_all : (k : ℕ) (u : Tables) → length ws ≤ k → Grown 0 (row_cells b m (take k ws)) t u → Grown 0 (row_cells b m ws) t u
  row_grown_all k u h g = rw (take_all k ws h) at g

pub wide_at : {ws : List ℕ} (k : ℕ) → Wide ws → k < length ws → 9 ≤ slice_index ws k
wide_at k Wide.none h = absurd (not-suc-le-zero h)
wide_at zero (Wide.more low high r) h = low
wide_at (suc k) (Wide.more low high r) h = wide_at k r (le_of_suc-le-suc h)

-- a field of a row has room
pub row_room : (ws : List ℕ) (k at w : ℕ) → Wide ws → total ws ≤ 80 → k < length ws → at ≡ field_start ws k → w ≡ slice_index ws k → (at + w ≤ 80) × (9 ≤ w)
unfolding field_past
row_room ws k at w wide few h e f = (omega (arith, field_past_total ws k), omega (arith, wide_at k wide h))

pub row_on : (ws : List ℕ) (k at w : ℕ) → at ≡ field_start ws k → w ≡ slice_index ws k → at + w ≡ field_start ws (k + 1)
unfolding field_past
row_on ws k at w e f = omega (arith, rw (← add-one k) at (field_start_next ws k))

-- a line's fields from a column on are refused for nothing: past the last one, and with one more
pub record Clear (fs : List Field) (at : ℕ) (line : List ℕ) : Type 0 where
  pub no_fault : fields_fault fs at line ≡ passed
  pub no_stray : stray fs at line ≡ 0

pub clear_end : (at : ℕ) (line : List ℕ) {bl : List ℕ} → drop at line ≡ bl → Blanks bl → Clear [] at line
unfolding fields_fault stray
clear_end at line {bl} e n =
    record { no_fault = refl; no_stray = rw e (first_byte_blank (at + 1) (take (80 - at) bl) (all_blank_complete (blanks_take (80 - at) n))) }

pub clear_on : (f : Field) (fs : List Field) (at : ℕ) (line : List ℕ) {l : List ℕ} → take f.width (drop at line) ≡ l
    → field_number f.form (may_blank f.form line) (take f.width (drop at line)) ≡ 0 → stray_in f.form (at + 1) l ≡ 0 → Clear fs (at + f.width) line → Clear (f ∷ fs) at line
unfolding fields_fault stray
clear_on f fs at line e n s c = record { no_fault = rw n c.no_fault; no_stray = rw (e, s) c.no_stray }

-- columns that fit a field and then more, by the line's columns
pub record On (a b : List Cell) (w at : ℕ) (line bl : List ℕ) : Type 0 where
  pub first : List ℕ
  pub second : List ℕ
  pub here : take w (drop at line) ≡ first
  pub on : drop (at + w) line ≡ second ++ bl
  pub fits_first : Fits a first
  pub fits_second : Fits b second

pub fits_on : (a b : List Cell) (w at : ℕ) (line : List ℕ) {r bl : List ℕ} → length a ≡ w → drop at line ≡ r ++ bl → Fits (a ++ b) r → On a b w at line bl
fits_on a b w at line {bl = bl} n e f =
    let s = fits_split a b f in
    let k : length s.first ≡ w = fits_length s.fits_first ∙ n in
    let parts : drop at line ≡ s.first ++ (s.second ++ bl) = e ∙ ap (λ (m : List ℕ). m ++ bl) s.is ∙ append_assoc s.first s.second bl in
    record {
      first = s.first;
      second = s.second;
      here = rw parts (take_at s.first (s.second ++ bl) w k);
      on = sym (drop-drop w at line) ∙ rw parts (drop_at s.first (s.second ++ bl) w k);
      fits_first = s.fits_first;
      fits_second = s.fits_second;
    }

pub clear_passes : {fs : List Field} {line : List ℕ} → Clear fs 0 line → fields_refusal fs line ≡ passed
clear_passes {fs} {line} c = fields_refusal_passed fs line passed (sym c.no_fault) (omega arith) 0 (sym c.no_stray) (omega arith)

module _ (b m : ℕ) (x : Letter b) (few : m ≤ 9) where
  pub row_allowed : {ws r : List ℕ} → Wide ws → Fits (row_cells b m ws) r → Allowed r
  unfolding row_cells
  row_allowed Wide.none Fits.none = Allowed.none
  row_allowed (Wide.more {w} {ws} low high h) f =
      let s = fits_split (field_cells b m w) (row_cells b m ws) f in
      rw s.is (allowed_append (field_allowed b m w x few s.fits_first) (row_allowed h s.fits_second))

  row_clear : {ws : List ℕ} (at : ℕ) (line : List ℕ) {r bl : List ℕ} → Wide ws → drop at line ≡ r ++ bl → Fits (row_cells b m ws) r → Blanks bl → Clear (map E ws) at line
  unfolding row_cells field_number
  row_clear at line Wide.none e Fits.none n = clear_end at line e n
  row_clear at line (Wide.more {w} {ws} low high h) e f n =
      let o = fits_on (field_cells b m w) (row_cells b m ws) w at line (field_length b m w low) e f in
      clear_on (E w) (map E ws) at line o.here (rw (o.here, (field_holds b m w x few high o.fits_first).is) refl) refl
      (row_clear (at + w) line h o.on o.fits_second n)

  pub row_passes : {ws : List ℕ} (line : List ℕ) {r bl : List ℕ} → Wide ws → line ≡ r ++ bl → Fits (row_cells b m ws) r → Blanks bl → fields_refusal (map E ws) line ≡ passed
  row_passes line h e f n = clear_passes (row_clear 0 line h e f n)

  -- no LF stands in its fields
  pub row_line : {ws r : List ℕ} (rest : List ℕ) → Wide ws → Fits (row_cells b m ws) r → line_len (r ++ rest) ≡ total ws + line_len rest
  row_line rest h f = line_len_allowed rest (row_allowed h f) ∙ rw (fits_length f, row_length b m h) refl

-- field k of a row
pub row_field_lem : (b m : ℕ) {ws r : List ℕ} (k : ℕ) (rest : List ℕ) → Wide ws → k < length ws → Fits (row_cells b m ws) r
    → Fits (field_cells b m (slice_index ws k)) (take (slice_index ws k) (drop (field_start ws k) (r ++ rest)))
unfolding row_cells field_start
row_field_lem b m k rest Wide.none h f = absurd (not-suc-le-zero h)
row_field_lem b m zero rest (Wide.more {w} {ws} low high wide) h f =
    let s = fits_split (field_cells b m w) (row_cells b m ws) f in
    let n : length s.first ≡ w = fits_length s.fits_first ∙ field_length b m w low in
    rw (s.is, append_assoc s.first s.second rest, take_at s.first (s.second ++ rest) w n) s.fits_first
row_field_lem b m (suc k) rest (Wide.more {w} {ws} low high wide) h f =
    let s = fits_split (field_cells b m w) (row_cells b m ws) f in
    let n : length s.first ≡ w = fits_length s.fits_first ∙ field_length b m w low in
    let on : drop w (s.first ++ (s.second ++ rest)) ≡ s.second ++ rest = drop_at s.first (s.second ++ rest) w n in
    rw (s.is, append_assoc s.first s.second rest, ← drop-drop (field_start ws k) w (s.first ++ (s.second ++ rest)), on)
    (row_field_lem b m k rest wide (le_of_suc-le-suc h) s.fits_second)

-- such a line is no delimiter
third_append : {a : List ℕ} (b : List ℕ) → Third a → Third (a ++ b)
third_append b (third x y n) = third x y n

third_delimiter : {l : List ℕ} → Third l → is_delimiter l ≡ false
unfolding is_delimiter then_blank
third_delimiter (third a b {c} {l} n) = rw (ne_eqb c 32 n) (go (a == 32) (b == 32))
  where
    go : (t u : Bool) → t && (u && false) ≡ false
    go true true = refl
    go true false = refl
    go false u = refl

pub row_delimiter : (b m w : ℕ) (ws : List ℕ) (line bl : List ℕ) {r : List ℕ} → line ≡ r ++ bl → Fits (row_cells b m (w ∷ ws)) r → is_delimiter line ≡ false
unfolding row_cells
row_delimiter b m w ws line bl e f =
    let s = fits_split (field_cells b m w) (row_cells b m ws) f in
    ap is_delimiter (e ∙ ap (λ (m : List ℕ). m ++ bl) s.is) ∙ third_delimiter (third_append bl (third_append s.second (field_third b m w s.fits_first)))

-- the tables of a line, from those of its row, blanks and any bytes
pub table_laid : (b m n past : ℕ) (ws : List ℕ) (t u v : Tables) → Wide ws → total ws ≤ n → n ≤ 80 → past ≡ total ws
    → Grown 0 (row_cells b m ws) (tables (replicate 80 48) (replicate 80 9) (replicate 80 48)) t → Grown past (replicate (n - past) blank) t u → Grown n (replicate (80 - n) any) u v
    → Laid (table_cells b m ws n) v
unfolding table_cells line_cells
table_laid b m n past ws t u v h within few e g i j =
    let t₀ = tables (replicate 80 48) (replicate 80 9) (replicate 80 48) in
    let none : Laid [] t₀ = record {
      los_are = record { few = omega arith; is = refl };
      spans_are = record { few = omega arith; is = refl };
      alts_are = record { few = omega arith; is = refl };
    } in
    let i' : Grown (total ws) (replicate (n - total ws) blank) t u = rw e at i in
    let line = grown_on 0 (row_cells b m ws) (replicate (n - total ws) blank) t₀ t u (total ws) (rw (row_length b m h) (omega arith)) g i' in
    let whole : n ≡ 0 + length (row_cells b m ws ++ replicate (n - total ws) blank)
    = rw (length-append (row_cells b m ws) (replicate (n - total ws) blank), row_length b m h, length-replicate (n - total ws) blank) (omega arith) in
    grown_on 0 (row_cells b m ws ++ replicate (n - total ws) blank) (replicate (80 - n) any) t₀ u v n whole line j [] refl none

-- bytes that begin with such columns
pub record Begun (b m : ℕ) (ws l : List ℕ) : Type 0 where
  pub row : List ℕ
  pub rest : List ℕ
  pub is : l ≡ row ++ rest
  pub fits : Fits (row_cells b m ws) row

-- 80 bytes that pass the tables of a line begin with its row
module _ (b m n : ℕ) (ws : List ℕ) (h : Wide ws) (within : total ws ≤ n) (few : n ≤ 80) where
  pub table_length : length (table_cells b m ws n) ≡ 80
  unfolding table_cells line_cells
  table_length =
      let blanks = replicate (n - total ws) blank in
      rw (
        length-append (row_cells b m ws ++ blanks) (replicate (80 - n) any),
        length-append (row_cells b m ws) blanks,
        row_length b m h,
        length-replicate (n - total ws) blank,
        length-replicate (80 - n) any,
      )
      (omega arith)

  pub row_begun : (t : Tables) (s : List ℕ) (at : ℕ) → Laid (table_cells b m ws n) t → at + 80 ≤ length s → Passed t s at 80 → Begun b m ws (drop at s)
  unfolding table_cells line_cells
  row_begun t s at laid room passed =
      let all = rw table_length at (fits_passed (table_cells b m ws n) t s at laid (rw table_length room) (rw table_length passed)) in
      let line = fits_split (row_cells b m ws ++ replicate (n - total ws) blank) (replicate (80 - n) any) all in
      let first = fits_split (row_cells b m ws) (replicate (n - total ws) blank) line.fits_first in
      let past = drop 80 (drop at s) in
      record {
        row = first.first;
        rest = first.second ++ (line.second ++ past);
        is =
            sym (take-append-drop 80 (drop at s))
            ∙ ap (λ (l : List ℕ). l ++ past) (line.is ∙ ap (λ (l : List ℕ). l ++ line.second) first.is)
            ∙ append_assoc (first.first ++ first.second) line.second past
            ∙ append_assoc first.first first.second (line.second ++ past);
        fits = first.fits_first;
      }
