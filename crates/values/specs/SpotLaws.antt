-- The code goes from each stored number to the next one's own columns.
use Rattle.std.specs.Prelude.{◌≡◌, List, drop}
use Rattle.std.proofs.Math.Path.{refl, sym, ap}
use Rattle.std.proofs.Common.{◌∙◌, lt-ltb, le-ltb}
use Rattle.std.proofs.Math.Logic.{⊎_elim}
use Prim.Native.Nat.{ℕ, zero, suc, ◌+◌, ◌-◌, ◌*◌, ◌/◌, ◌%◌, ◌≤◌, ◌<◌}
use Rattle.std.proofs.Math.Nat.{zero-div, zero-mod, div_self, mod_self, div-eq_of_lt, mod-eq_of_lt, mul-add-div_right, mul-add-mod_self_right}
use Rattle.std.proofs.Math.Numerals.{add-one}
use native.Mathlib.Omega.{arith}
use Rattle.std.proofs.Math.ListN.{length, get_or}
use Rattle.laws.specs.ChoiceLaws.{below_or_not}
use Rattle.laws.specs.Cut.{cut, line_len}
use Rattle.laws.specs.Table.{tabulate}
use Rattle.laws.specs.TableLaws.{table_at}
use Rattle.layout.specs.Columns.{line_of, field_of, field_start, field_past}
use Rattle.layout.specs.ColumnsLaws.{field_start_next, field_of_inside, stored_at}
use Rattle.layout.specs.Layout.{layout_of, fields_of, cell_of}
use Rattle.layout.specs.LayoutLaws.{fields_of_some, widths_six, field_past_inside}
use Rattle.record_table.specs.TypedSets.{header_lines}
use Rattle.parts.specs.PartsLaws.{lines_end}
use Rattle.parts.specs.Scan.{skip_to}
use Rattle.parts.specs.SetLaws.{skip_stops, skip_none, skip_next}
use Rattle.reader.specs.declared.Data.{Data}
use Rattle.reader.specs.Reader.{read_in, read_of}
use Rattle.reader.specs.Find.{line_at, span_of, real_at}
use Rattle.values.specs.declared.Spot.{Spot}
use Rattle.values.specs.Spot.{spot, spot_of, next_spot, AtSpot}
use Rattle.values.specs.Accepted.{RealIn, AllReal}

-- a line further is one line from there
module _ (f : List ℕ) (stop : ℕ) where
  abbrev skips : ℕ → ℕ → ℕ
  skips k at = skip_to k stop at (cut (drop at f)).lines

  skip_one : (k at : ℕ) → at < stop → at ≤ length f → at + line_len (drop at f) < length f → skips (suc k) at ≡ skips k (at + line_len (drop at f) + 1)
  skip_one k at h a l = let z : suc k - 1 ≡ k = omega arith in skip_next f (suc k) stop at _ (omega arith) h a refl l ∙ rw z refl

  -- where no line follows
  stays : (k at : ℕ) → ((m : ℕ) → skips m at ≡ at) → skips (suc k) at ≡ skips 1 (skips k at)
  stays k at e = e (suc k) ∙ sym (ap (skips 1) (e k) ∙ e 1)

  pub skip_further : (k at : ℕ) → at ≤ length f → skips (suc k) at ≡ skips 1 (skips k at)
  unfolding skip_to
  skip_further zero at a = refl
  skip_further (suc k) at a =
      ⊎_elim
      (λ (h : at < stop).
      ⊎_elim
      (λ (l : at + line_len (drop at f) < length f).
      skip_one (suc k) at h a l ∙ skip_further k (at + line_len (drop at f) + 1) (omega arith) ∙ ap (skips 1) (sym (skip_one k at h a l)))
      (λ (l : length f ≤ at + line_len (drop at f)).
      stays (suc k) at (λ m. skip_none m stop at (cut (drop at f)).lines (lines_end f at _ a refl l)))
      (below_or_not (at + line_len (drop at f)) (length f)))
      (λ (h : stop ≤ at). stays (suc k) at (λ m. skip_stops m stop at (cut (drop at f)).lines h))
      (below_or_not at stop)

-- the field and the line of the next number
module _ (n j : ℕ) (p : 0 < n) where
  next_number : j + 1 ≡ line_of n j * n + (field_of n j + 1)
  next_number = let h : line_of n j * n + field_of n j ≡ j = stored_at n j in omega arith

  same_line : field_of n j + 1 < n → (line_of n (j + 1) ≡ line_of n j) × (field_of n (j + 1) ≡ field_of n j + 1)
  unfolding line_of field_of
  same_line h = (
    ap (λ (x : ℕ). x / n) next_number ∙ mul-add-div_right p (j / n) (j % n + 1) ∙ rw (div-eq_of_lt {n = j % n + 1} {m = n} h) (omega arith),
    ap (λ (x : ℕ). x % n) next_number ∙ mul-add-mod_self_right (j / n) n (j % n + 1) ∙ mod-eq_of_lt h,
  )

  next_line : n ≤ field_of n j + 1 → (line_of n (j + 1) ≡ suc (line_of n j)) × (field_of n (j + 1) ≡ 0)
  unfolding line_of field_of
  next_line h =
      let e : j % n + 1 ≡ n = omega (arith, field_of_inside n j p) in (
        ap (λ (x : ℕ). x / n) next_number ∙ mul-add-div_right p (j / n) (j % n + 1) ∙ rw (e, div_self p) (omega arith),
        ap (λ (x : ℕ). x % n) next_number ∙ mul-add-mod_self_right (j / n) n (j % n + 1) ∙ rw e (mod_self n),
      )

-- the first number opens the first data line
pub spot_first : (file : List ℕ) (d : Data) (at : ℕ) → at ≡ skip_to header_lines d.closing d.body (cut (drop d.body file)).lines → spot at 0 at ≡ spot_of file d 0
unfolding spot_of line_at span_of line_of field_of field_start
spot_first file d at e =
    let z : skip_to header_lines d.closing d.body (cut (drop d.body file)).lines + 0 ≡ skip_to header_lines d.closing d.body (cut (drop d.body file)).lines = omega arith in
    rw (e, zero-div, zero-mod, z) refl

module _ (file : List ℕ) (d : Data) (body : d.body ≤ length file) (eight : d.case < 8) (j : ℕ) (s : Spot) (at : AtSpot file d j s) (ws : List ℕ) (widths : ws ≡ tabulate (cell_of d.case) 0 6) where
  abbrev n : ℕ
  n = fields_of d.case

  field_six : s.field < 6
  unfolding spot_of fields_of
  field_six = rw at.spot_is (omega (arith, field_of_inside n j (fields_of_some d.case eight), widths_six d.case))

  width_own : get_or ws s.field 0 ≡ get_or (layout_of d.case).widths s.field 0
  unfolding cell_of
  width_own = table_at (cell_of d.case) ws 6 s.field 0 widths field_six ∙ rw (lt-ltb s.field 6 field_six) refl

  past_own : s.first + get_or ws s.field 0 ≡ (span_of file d j).past
  unfolding spot_of span_of field_past
  past_own = rw width_own (rw at.spot_is (omega arith))

  -- a field of the line, which ends not far past the file
  pub here : (s.field < 6) × (s.first + get_or ws s.field 0 ≤ length file + 80)
  unfolding spot_of span_of
  here =
      let k : field_past (layout_of d.case).widths (field_of n j) ≤ 80 = field_past_inside d.case _ in
      let l : line_at file d j ≤ length file = rw at.spot_is at at.inside in
      (field_six, rw past_own (omega arith))

  -- what is read there is the number's, and it is a real where all are
  pub read_own : read_of (read_in file s.first (s.first + get_or ws s.field 0)) ≡ read_of (real_at file d j)
  unfolding spot_of
  read_own =
      ap (λ (x : ℕ). read_of (read_in file s.first x)) past_own
      ∙ ap (λ (x : Spot). read_of (read_in file x.first (span_of file d j).past)) at.spot_is

  pub real_here : (count : ℕ) → AllReal file d count → j < count → RealIn file s.first (s.first + get_or ws s.field 0)
  unfolding spot_of
  real_here count all h =
      let first : s.first ≡ (span_of file d j).first = ap (λ (x : Spot). x.first) at.spot_is in
      rw past_own (rw first (all.real j h))

  -- on the same line
  further : (m : ℕ) → m ≡ n → s.field + 1 < m → next_spot file d.closing m ws s ≡ spot_of file d (j + 1)
  unfolding spot_of next_spot span_of line_at
  further m e h =
      let f : field_of n j ≡ s.field = sym (ap (λ (x : Spot). x.field) at.spot_is) in
      let q = same_line n j (fields_of_some d.case eight) (omega arith) in
      let a : s.line ≡ line_at file d (j + 1) = ap (λ (x : Spot). x.line) at.spot_is ∙ rw q.0 refl in
      let b : s.field + 1 ≡ field_of n (j + 1) = rw q.1 (omega arith) in
      let c : s.first + get_or ws s.field 0 ≡ (span_of file d (j + 1)).first = past_own ∙ rw (q.0, q.1, add-one, field_start_next) refl in
      rw (lt-ltb (s.field + 1) m h) (cc)

  -- on the next line
  opening : (m : ℕ) → m ≡ n → m ≤ s.field + 1 → next_spot file d.closing m ws s ≡ spot_of file d (j + 1)
  unfolding spot_of next_spot span_of line_at field_start
  opening m e h =
      let f : field_of n j ≡ s.field = sym (ap (λ (x : Spot). x.field) at.spot_is) in
      let q = next_line n j (fields_of_some d.case eight) (omega arith) in
      let z : header_lines + suc (line_of n j) ≡ suc (header_lines + line_of n j) = omega arith in
      let a : skips file d.closing 1 s.line ≡ line_at file d (j + 1)
      = ap (skips file d.closing 1) (ap (λ (x : Spot). x.line) at.spot_is) ∙ sym (rw (q.0, z) (skip_further file d.closing (header_lines + line_of n j) d.body body)) in
      let o : line_at file d (j + 1) + 0 ≡ line_at file d (j + 1) = omega arith in
      rw (le-ltb (s.field + 1) m h, a, q.1, o) refl

  pub spot_next : (m : ℕ) (t : Spot) → m ≡ n → (t ≡ next_spot file d.closing m ws s) × (t.line ≤ length file) → AtSpot file d (j + 1) t
  spot_next m t e (f, l) = record { spot_is = f ∙ ⊎_elim (further m e) (opening m e) (below_or_not (s.field + 1) m); inside = l }
