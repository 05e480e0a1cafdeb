-- A usual line is read field by field, and after it comes the line of the next numbers.
use Rattle.std.specs.Prelude.{◌≡◌, Ok, Err, ◌⊎◌, Bool, true, false, ◌||◌, List, eqb, Float, drop}
use Rattle.std.proofs.Math.Path.{refl, sym, ap}
use Rattle.std.proofs.Common.{◌∙◌, inl, inr, drop_at}
use Rattle.std.proofs.Math.Logic.{⊎_elim}
use Prim.Native.Nat.{ℕ, zero, suc, ◌+◌, ◌-◌, ◌*◌, ◌/◌, ◌%◌, ◌≤◌, ◌<◌, min}
use Rattle.std.proofs.Math.Nat.{sub-zero, div_self, mod_self, div-eq_of_lt, mod-eq_of_lt, mul-add-div_right, mul-add-mod_self_right}
use native.Mathlib.Omega.{arith}
use borrow.Author.Tests.{le-leb, eqb-true}
use Rattle.std.proofs.Math.ListN.{length, get_or}
use Rattle.std.proofs.Math.Seq.{drop-drop}
use Rattle.laws.specs.Cut.{cut, line_len}
use Rattle.laws.specs.Ranges.{all_are}
use Rattle.laws.specs.RangesLaws.{in_range}
use Rattle.laws.specs.Table.{tabulate}
use Rattle.real.specs.Real.{Real}
use Rattle.real.specs.Real.{is_letter, real_of}
use Rattle.real.specs.ByteLaws.{is_letter_sound}
use Rattle.layout.specs.Columns.{line_of, field_of, field_start, field_past, total}
use Rattle.layout.specs.ColumnsLaws.{stored_at}
use Rattle.layout.specs.Layout.{layout_of, layouts, fields_of, cell_of}
use Rattle.layout.specs.LayoutLaws.{fields_of_some, width_cell, widths_six, total_inside, field_inside, field_past_inside}
use Rattle.record_table.specs.TypedSets.{header_lines}
use Rattle.parts.specs.Scan.{skip_to}
use Rattle.parts.specs.SetLaws.{skip_next}
use Rattle.reader.specs.declared.Data.{Data}
use Rattle.reader.specs.Reader.{Read}
use Rattle.reader.specs.Reader.{read_in, read_of, reads}
use Rattle.reader.specs.Find.{line_at, span_of, real_at}
use Rattle.usual_columns.specs.Cells as Cells
use Rattle.usual_columns.specs.declared.Tables.{Tables}
use Rattle.usual_columns.specs.Cells.{table_cells, Wide, Laid}
use Rattle.usual_columns.specs.CellsLaws.{fits_length}
use Rattle.usual_columns.specs.RowLaws.{Begun, wide_at, row_length, row_line, row_field_lem, row_begun}
use Rattle.usual_columns.specs.WidthsLaws.{layout_wide, layout_some}
use Rattle.usual_values.specs.Usual.{UsualField}
use Rattle.usual_values.specs.UsualLaws.{field_usual}
use Rattle.usual_values.specs.Number.{PowersTo, UsualRead}
use Rattle.usual_values.specs.NumberLaws.{usual_value}
use Rattle.values.specs.declared.Spot.{Spot}
use Rattle.values.specs.Spot.{spot, spot_of, AtSpot}
use Rattle.values.specs.SpotLaws.{skip_further}
use Rattle.values.specs.Fill.{refusal_of, refusal_in, pattern_or, patterns_put}
use Rattle.values.specs.FillLaws.{refusal_here, refusal_next, patterns_none}
use Rattle.values.specs.Lines.{field, Told, TablesFor, UsualLine, filled}

-- all the powers of ten, where the file has a line
pub powers_all : (n : ℕ) (t : List Float) → 22 ≤ n → PowersTo (min n 22) t → PowersTo 22 t
powers_all n t h p = let z : min n 22 ≡ 22 = omega arith in rw z at p

-- The fields of a case: each of 13 or 20 columns, as the code has them.

abbrev width_fits : ℕ → ℕ → Bool
width_fits c k = eqb (get_or (layout_of c).widths k 0) 13 || eqb (get_or (layout_of c).widths k 0) 20

width_fits_lem : (c k : ℕ) → c < 8 → k < fields_of c → width_fits c k ≡ true
unfolding fields_of layout_of layouts
width_fits_lem c k h l =
    let all = in_range (λ (i : ℕ). all_are (width_fits i) true 0 (fields_of i)) true 0 8 c refl (omega arith) (omega arith) in
    in_range (width_fits c) true 0 (fields_of c) k all (omega arith) (omega arith)

pub width_either : (c k : ℕ) → c < 8 → k < fields_of c → (get_or (layout_of c).widths k 0 ≡ 13) ⊎ (get_or (layout_of c).widths k 0 ≡ 20)
width_either c k h l = go (eqb (get_or (layout_of c).widths k 0) 13) refl (width_fits_lem c k h l)
  where
    go : (t : Bool) → eqb (get_or (layout_of c).widths k 0) 13 ≡ t → t || eqb (get_or (layout_of c).widths k 0) 20 ≡ true → (get_or (layout_of c).widths k 0 ≡ 13) ⊎ (get_or (layout_of c).widths k 0 ≡ 20)
    go true e q = inl (eqb-true _ 13 e)
    go false e q = inr (eqb-true _ 20 q)

-- the code's widths are the layout's
pub width_own : (c k : ℕ) (ws : List ℕ) → ws ≡ tabulate (cell_of c) 0 6 → k < fields_of c → get_or ws k 0 ≡ get_or (layout_of c).widths k 0
unfolding fields_of
width_own c k ws e h = width_cell c k ws e (omega (arith, widths_six c))

-- the row of a case, for its tables
module _ (c : ℕ) (l : List ℕ) (own : l ≡ (layout_of c).widths) where
  pub row_count : length l ≡ fields_of c
  unfolding fields_of
  row_count = ap length own

  pub row_fits : c < 8 → Wide l × (total l ≤ 80) × (0 ≤ 80)
  row_fits h = rw own (layout_wide c h, total_inside c, omega arith)

  pub first_width : (w : ℕ) → c < 8 → w ≡ get_or l 0 0 → (9 ≤ w) × (w ≤ 80)
  first_width w h e =
      let f : w ≡ get_or (layout_of c).widths 0 0 = e ∙ rw own refl in
      (omega (arith, wide_at 0 (layout_wide c h) (layout_some c h)), omega (arith, field_inside c 0))

-- the tables of a set
pub tables_for : (d : Data) (l : List ℕ) (t : Tables) (b m c : ℕ) → l ≡ (layout_of d.case).widths → is_letter b ≡ true → c ≡ total l + (0 - total l) → Laid (table_cells b m l c) t → m ≡ 0
    → TablesFor d c t
tables_for d l t b m c own x e laid z = record { letter = b; letter_is = x; columns_are = e ∙ rw own (omega arith); laid = rw (own, z) at laid }

-- a line that passes is usual, and the line past its LF is the next
module _ (file : List ℕ) (d : Data) (t : Tables) (c at : ℕ) (eight : d.case < 8) (own : TablesFor d c t) (room : at + 80 ≤ length file) (passed : Cells.Passed t file at 80) where
  abbrev row : List ℕ
  row = (layout_of d.case).widths

  wide : Wide row
  wide = layout_wide d.case eight

  begun : Begun own.letter 0 row (drop at file)
  begun =
      row_begun own.letter 0 c row wide (omega (arith, own.columns_are)) (omega (arith, own.columns_are, total_inside d.case)) t file at own.laid room passed

  row_past : drop (at + c) file ≡ begun.rest
  row_past =
      let n : length begun.row ≡ c = fits_length begun.fits ∙ row_length own.letter 0 wide ∙ sym own.columns_are in
      sym (drop-drop c at file) ∙ rw begun.is (drop_at begun.row begun.rest c n)

  -- no LF stands in its fields, so it is looked for past them
  end_past : at + c + line_len (drop (at + c) file) ≡ at + line_len (drop at file)
  end_past =
      let letter = is_letter_sound own.letter own.letter_is in
      let n : line_len (drop at file) ≡ total row + line_len begun.rest = ap line_len begun.is ∙ row_line own.letter 0 letter (omega arith) begun.rest wide begun.fits in
      let m : line_len (drop (at + c) file) ≡ line_len begun.rest = ap line_len row_past in
      omega (arith, own.columns_are)

  field_here : (k : ℕ) → k < fields_of d.case → UsualField (field file (at + field_start row k) (get_or row k 0))
  unfolding fields_of
  field_here k h =
      let either = width_either d.case k eight h in
      let low : 9 ≤ get_or row k 0 = ⊎_elim (λ (q : get_or row k 0 ≡ 13). omega arith) (λ (q : get_or row k 0 ≡ 20). omega arith) either in
      let high : get_or row k 0 ≤ 21 = ⊎_elim (λ (q : get_or row k 0 ≡ 13). omega arith) (λ (q : get_or row k 0 ≡ 20). omega arith) either in
      rw (← drop-drop (field_start row k) at file, begun.is)
      (field_usual own.letter (get_or row k 0) own.letter_is low high (row_field_lem own.letter 0 k begun.rest wide h begun.fits))

  pub usual_line : (end : ℕ) → at < d.closing → end ≡ at + c + line_len (drop (at + c) file) → end < length file → UsualLine file d at (end + 1)
  unfolding skip_to
  usual_line end before f inside =
      record {
        fields = field_here;
        room = room;
        next_is = sym (skip_next file 1 d.closing at end (omega arith) before (omega arith) (f ∙ end_past) inside);
        next_inside = omega arith;
      }

-- a number that is the first of its line's fields opens the line
pub spot_opens : (file : List ℕ) (d : Data) (j : ℕ) (s : Spot) → AtSpot file d j s → s.field ≤ 0 → AtSpot file d j (spot s.line 0 s.line)
unfolding spot_of span_of field_start
spot_opens file d j s at h =
    let f : field_of (fields_of d.case) j ≡ 0 = sym (ap (λ (x : Spot). x.field) at.spot_is) ∙ omega arith in
    let l : s.line ≡ line_at file d j = ap (λ (x : Spot). x.line) at.spot_is in
    let o : line_at file d j + 0 ≡ line_at file d j = omega arith in
    record { spot_is = rw (l, f, o) refl; inside = at.inside }

-- a number that opens a line
module _ (file : List ℕ) (d : Data) (body : d.body ≤ length file) (eight : d.case < 8) (j line next : ℕ) (at : AtSpot file d j (spot line 0 line))
    (usual : UsualLine file d line next) where
  abbrev n : ℕ
  n = fields_of d.case

  abbrev ws : List ℕ
  ws = (layout_of d.case).widths

  opens : field_of n j ≡ 0
  unfolding spot_of
  opens = sym (ap (λ (x : Spot). x.field) at.spot_is)

  begins : line_at file d j ≡ line
  unfolding spot_of
  begins = sym (ap (λ (x : Spot). x.line) at.spot_is)

  -- number j + k, by its line and its field
  counted : (k : ℕ) → j + k ≡ line_of n j * n + k
  counted k = let h : line_of n j * n + field_of n j ≡ j = stored_at n j in let z = opens in omega arith

  same_line : (k : ℕ) → k < n → (line_of n (j + k) ≡ line_of n j) × (field_of n (j + k) ≡ k)
  unfolding line_of field_of
  same_line k h = (
    ap (λ (x : ℕ). x / n) (counted k) ∙ mul-add-div_right (fields_of_some d.case eight) (j / n) k ∙ rw (div-eq_of_lt {n = k} {m = n} h) (omega arith),
    ap (λ (x : ℕ). x % n) (counted k) ∙ mul-add-mod_self_right (j / n) n k ∙ mod-eq_of_lt h,
  )

  next_line : (line_of n (j + n) ≡ suc (line_of n j)) × (field_of n (j + n) ≡ 0)
  unfolding line_of field_of
  next_line =
      let p = fields_of_some d.case eight in (
        ap (λ (x : ℕ). x / n) (counted n) ∙ mul-add-div_right p (j / n) n ∙ rw (div_self p) (omega arith),
        ap (λ (x : ℕ). x % n) (counted n) ∙ mul-add-mod_self_right (j / n) n n ∙ mod_self n,
      )

  -- the next line's first number
  pub line_next : AtSpot file d (j + n) (spot next 0 next)
  unfolding spot_of span_of line_at field_start
  line_next =
      let q = next_line in
      let z : header_lines + suc (line_of n j) ≡ suc (header_lines + line_of n j) = omega arith in
      let further = skip_further file d.closing (header_lines + line_of n j) d.body body in
      let after : ℕ → ℕ = λ x. skip_to 1 d.closing x (cut (drop x file)).lines in
      let a : line_at file d (j + n) ≡ next = rw (q.0, z) (further ∙ ap after begins ∙ sym usual.next_is) in
      let o : next + 0 ≡ next = omega arith in
      record { spot_is = rw (a, q.1, o) refl; inside = usual.next_inside }

  -- what stands in a number's columns
  pub line_real : (k : ℕ) → k < n → real_at file d (j + k) ≡ real_of (field file (line + field_start ws k) (get_or ws k 0))
  unfolding span_of line_at read_in field_past
  line_real k h =
      let q = same_line k h in
      let w : field_start ws k + get_or ws k 0 ≤ 80 = field_past_inside d.case k in
      let room = usual.room in
      let s : line + (field_start ws k + get_or ws k 0) - (line + field_start ws k) ≡ get_or ws k 0 = omega arith in
      rw (q.0, q.1, begins, le-leb (line + (field_start ws k + get_or ws k 0)) (length file) (omega arith), s) refl

  pub line_value : (k : ℕ) → k < n → (v : Float) × (read_of (real_at file d (j + k)) ≡ Ok v)
  line_value k h = let u = usual_value _ (usual.fields k h) in (u.0, ap read_of (line_real k h) ∙ u.1)

  -- a bit pattern worked out from a number's columns is what is put for it
  pub line_pattern : (k r y : ℕ) → k < n → UsualRead (field file (line + field_start ws k) (get_or ws k 0)) r → r ≡ pattern_or y (read_of (real_at file d (j + k)))
  line_pattern k r y h u = u.pattern_is ∙ sym (rw (line_real k h, u.read_is) refl)

  -- none of the line's numbers is refused
  pub line_skipped : (count : ℕ) → j + n ≤ count → refusal_in (reads (real_at file d) (j + n) (count - (j + n))) ≡ refusal_in (reads (real_at file d) j (count - j))
  line_skipped count h = go n (omega arith)
    where
      go : (k : ℕ) → k ≤ n → refusal_in (reads (real_at file d) (j + k) (count - (j + k))) ≡ refusal_in (reads (real_at file d) j (count - j))
      go zero l = let z : j + 0 ≡ j = omega arith in rw z refl
      go (suc k) l =
          let v = line_value k (omega arith) in
          let z : j + k + 1 ≡ j + suc k = omega arith in
          rw (← z) (refusal_next (real_at file d) (j + k) count (omega arith) (Ok v.0) 0 (sym v.1) refl (omega arith) ∙ go k (omega arith))

-- the places at the start and at the end
module _ (g : ℕ → Real) (count : ℕ) where
  pub filled_none : (out : List ℕ) → filled g count 0 out ≡ patterns_put (reads g 0 count) out
  filled_none out = rw sub-zero refl

  pub filled_all : (j : ℕ) (out : List ℕ) → count ≤ j → out ≡ filled g count j out
  filled_all j out h = patterns_none g j count h out

-- what is told of a number
pub told_is : {e n : ℕ} → Told (Err e) n → (e ≡ n) × (0 < e)
told_is (Told.some h) = (refl, h)

pub told_zero : {u : Unit} {n : ℕ} → Told (Ok u) n → n ≡ 0
told_zero Told.none = refl

module _ (g : ℕ → Real) (j count : ℕ) (h : j < count) {a : Read} (own : a ≡ read_of (g j)) where
  -- it is the first refusal, or the next numbers have that
  pub told_refused : {e m : ℕ} → Told (Err e) (refusal_of a) → refusal_in (reads g j (count - j)) ≡ m → Told (Err e) m
  told_refused {e} t q =
      let i = told_is t in
      let first : refusal_of a ≡ refusal_in (reads g j (count - j)) = refusal_here g j count h a (refusal_of a) own refl (omega (arith, i)) in
      rw (← q, ← first) t

  pub told_passed : {u : Unit} → Told (Ok u) (refusal_of a) → refusal_in (reads g (j + 1) (count - (j + 1))) ≡ refusal_in (reads g j (count - j))
  told_passed t = refusal_next g j count h a (refusal_of a) own refl (omega (arith, told_zero t))
