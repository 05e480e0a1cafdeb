-- Every byte of a 58's data lines that is no blank, the lines' ends aside, lies in the columns of a stored
-- number or of a padding number.
use Rattle.std.specs.Prelude.{◌≡◌, refl, Bool, true, false, eqb, get_or, take, drop, replicate}
use Rattle.std.proofs.Common.{sym, ◌∙◌, ⊎_elim, mul-le-mul, suc-mul, eqb-true, get_or-take, get_or-drop}
use Rattle.std.proofs.Math.Path.{ap}
use mathlib.Core.List.{List, [], ◌∷◌}
use Prim.Native.Nat.{ℕ, suc, ◌+◌, ◌-◌, ◌*◌, ◌<◌, ◌≤◌}
use native.Mathlib.Omega.{arith}
use Rattle.std.proofs.lemmas.Bool.{eqb-false}
use Rattle.std.proofs.Math.ListN.{length, get_or-append, get_or-map}
use Rattle.laws.specs.ChoiceLaws.{below_or_not}
use Rattle.line.specs.Line.{columns, without_return, filled}
use Rattle.line.specs.LineLaws.{columns_take, columns_lf, columns_return, filled_short}
use Rattle.layout.specs.Columns.{line_of, field_start, field_past}
use Rattle.layout.specs.ColumnsLaws.{field_past_before, field_past_total}
use Rattle.layout.specs.Layout.{layout_of, fields_of}
use Rattle.record_table.specs.TypedSets.{header_lines}
use Rattle.theory.specs.Sets.{Set}
use Rattle.theory.specs.Due.{lines_for}
use Rattle.line_laws.specs.ShortLaws.{short_at}
use Rattle.walk.specs.DueLaws.{get_d_inside}
use Rattle.parts.specs.Parts as Parts
use Rattle.parts.specs.Function as Function
use Rattle.parts.specs.Padding.{last_field, counted_past, padding_of}
use Rattle.parts.specs.Set.{Somewhere}
use Rattle.parts.specs.SetLaws.{line_bytes, line_end_lem}
use Rattle.parts_laws.specs.Holds.{columns_of, Holds}
use Rattle.parts_laws.specs.Declares.{set_case}
use Rattle.parts_laws.specs.DeclaresLaws.{case_held}
use Rattle.parts_laws.specs.Stored.{stored_count}
use Rattle.parts_laws.specs.StoredLaws.{set_data}
use Rattle.parts_laws.specs.PaddingLaws.{last_of}
use Rattle.parts_laws.specs.CoverLaws.{data_covered}
use Rattle.parts_laws.proofs.OrderLaws.{lines_apart, body_length}
use Rattle.parts_laws.specs.Whole.{field_count, Owned}
use Rattle.parts_laws.proofs.PaddedLaws.{stored_some, stored_place, last_number, padding_whole}

-- the line of a byte
record In (bs : List (List ℕ)) (at x : ℕ) : Type 0 where
  line : ℕ
  some : line < length bs
  from : at + Parts.bytes_in (take line bs) ≤ x
  past : x ≤ (at + Parts.bytes_in (take line bs)) + length (get_or bs line [])

in_later : (l : List ℕ) (bs : List (List ℕ)) (at x : ℕ) → In bs (at + suc (length l)) x → In (l ∷ bs) at x
unfolding Parts.bytes_in
in_later l bs at x i = record { line = suc i.line; some = omega (arith, i.some); from = omega (arith, i.from); past = omega (arith, i.past) }

in_first : (l : List ℕ) (bs : List (List ℕ)) (at x : ℕ) → at ≤ x → x < at + suc (length l) → In (l ∷ bs) at x
unfolding Parts.bytes_in
in_first l bs at x a h = record { line = 0; some = omega arith; from = omega arith; past = omega arith }

locate : (bs : List (List ℕ)) (at x : ℕ) → at ≤ x → x < at + Parts.bytes_in bs → In bs at x
unfolding Parts.bytes_in
locate [] at x a h = absurd (omega arith)
locate (l ∷ bs) at x a h =
    ⊎_elim (in_first l bs at x a) (λ (q : at + suc (length l) ≤ x). in_later l bs at x (locate bs (at + suc (length l)) x q (omega arith))) (below_or_not x (at + suc (length l)))

-- a byte of a line that is no CR is one of its columns
in_columns : (l : List ℕ) (a : ℕ) → a < length l → (get_or l a 0 ≡ 13 → ⊥) → a < length (columns true l)
in_columns l a h n = by (eqb (get_or l (length l - 1) 0) 13) refl
  where
    by : (t : Bool) → eqb (get_or l (length l - 1) 0) 13 ≡ t → a < length (columns true l)
    by true e =
        let c : length (columns true l) ≡ length l - 1 = columns_return l (omega arith) (eqb-true _ _ e) in
        ⊎_elim (λ (q : a < length l - 1). omega arith)
        (λ (q : length l - 1 ≤ a). let z : a ≡ length l - 1 = omega arith in absurd (n (ap (λ (x : ℕ). get_or l x 0) z ∙ eqb-true _ _ e)))
        (below_or_not a (length l - 1))
    by false e = rw (columns_lf l (eqb-false _ _ e)) h

-- and stands in its 80 columns
column_byte : (l : List ℕ) (a : ℕ) → a < length (columns true l) → length (columns true l) ≤ 80 → get_or (filled (columns true l)) a 32 ≡ get_or l a 0
column_byte l a h s =
    rw (filled_short (columns true l) s)
    (get_or-append (columns true l) (replicate (80 - length (columns true l)) 32) 32 a h
    ∙ get_d_inside (columns true l) a 32 0 h
    ∙ ap (λ (x : List ℕ). get_or x a 0) (columns_take true l) ∙ get_or-take (length (columns true l)) l a 0 h)

-- a field of one of so many full lines
stored_below : (n k f lines : ℕ) → f < n → k < lines → f + k * n < lines * n
stored_below n k f lines h l =
    let m : suc k * n ≤ lines * n = mul-le-mul l (omega arith) in
    omega (arith, suc-mul k n)

-- a byte of line 11 + k of a 58, at column a of it
module _ {s : Set} {p : Parts.Part} (file : List ℕ) (ps : List Parts.Part) (w : Somewhere file p ps) (h : Holds s p) (e : s.number ≡ 58) where
  line_byte_lem : (m a : ℕ) → a < length (get_or p.body m []) → get_or file (Parts.line_start p m + a) 0 ≡ get_or (get_or p.body m []) a 0
  line_byte_lem m a l =
      sym (get_or-drop (Parts.line_start p m) file a 0)
      ∙ sym (get_or-take (length (get_or p.body m [])) (drop (Parts.line_start p m) file) a 0 l)
      ∙ ap (λ (x : List ℕ). get_or x a 0) (line_bytes file w.before w.from p ps w.stands m)

  columns_at_lem : (m : ℕ) → get_or (columns_of p.body) m [] ≡ columns true (get_or p.body m [])
  unfolding columns without_return
  columns_at_lem m = get_or-map (columns true) p.body m []

  -- a field of data line k with a column that is no blank is a stored number's or padding
  module _ (k a f : ℕ) (l : k < lines_for (fields_of (set_case s)) (stored_count s)) (some : f < fields_of (set_case s)) (from : field_start (layout_of (set_case s)).widths f ≤ a)
      (past : a < field_past (layout_of (set_case s)).widths f) (n : get_or (Parts.line_of p (header_lines + k)) a 32 ≡ 32 → ⊥) where
    abbrev fields : ℕ
    fields = fields_of (set_case s)

    abbrev last : ℕ
    last = line_of fields (stored_count s - 1)

    stored : 0 < stored_count s
    stored = stored_some h.lines e

    on_last : stored_count s ≤ f + k * fields → last ≤ k → f + k * fields < stored_count s + padding_of p
    unfolding counted_past field_count
    on_last q g =
        let ws : List ℕ = (layout_of (set_case s)).widths in
        let c : lines_for fields (stored_count s) ≡ suc last = last_of fields (stored_count s) (omega arith) stored in
        let z : k ≡ last = omega arith in
        let m : last * fields + suc (last_field (set_case s) (stored_count s)) ≡ stored_count s = last_number h e stored in
        let y : k * fields ≡ last * fields = ap (λ (x : ℕ). x * fields) z in
        let b = field_past_before ws (last_field (set_case s) (stored_count s)) f (omega arith) in
        let w = padding_whole h e stored a (omega (arith, b, from)) (omega (arith, past, field_past_total ws f)) (rw z at n) in
        omega (arith, w, stored_below fields k f (lines_for fields (stored_count s)) some l)

    before_last : stored_count s ≤ f + k * fields → k < last → ⊥
    before_last q g =
        let m : suc k * fields ≤ last * fields = mul-le-mul g (omega arith) in
        omega (arith, suc-mul k fields, last_number h e stored)

    counted : f + k * fields < stored_count s + padding_of p
    counted =
        ⊎_elim (λ (q : f + k * fields < stored_count s). omega arith)
        (λ (q : stored_count s ≤ f + k * fields). ⊎_elim (λ (g : k < last). absurd (before_last q g)) (on_last q) (below_or_not k last))
        (below_or_not (f + k * fields) (stored_count s))

  -- a column of a data line that is no blank is a field's
  owned_column : (k a : ℕ) → header_lines + k < length p.body → (get_or (filled (columns true (get_or p.body (header_lines + k) []))) a 32 ≡ 32 → ⊥)
      → Owned p (stored_count s + padding_of p) (Parts.line_start p (header_lines + k) + a)
  unfolding Function.first_byte Function.past_byte Function.data_line Parts.line_of fields_of
  owned_column k a l n =
      let q : Function.part_case p ≡ set_case s = case_held h e in
      let d = set_data h.lines e in
      let y = d.written k (omega (arith, body_length h e)) in
      let c = data_covered (set_case s) (stored_count s - k * fields_of (set_case s)) y.in_columns a (λ z. n (rw (columns_at_lem (header_lines + k)) at z)) in
      let g = stored_place (length (layout_of (set_case s)).widths) k c.field c.some in
      record {
        index = c.field + k * length (layout_of (set_case s)).widths;
        some = counted k a c.field (omega (arith, body_length h e)) c.some c.from c.past n;
        from = rw (q, g.0, g.1) (omega (arith, c.from));
        past = rw (q, g.0, g.1) (omega (arith, c.past));
      }

  abbrev base : ℕ
  base = p.bytes + Parts.bytes_in (p.opening ∷ p.number ∷ [])

  line_of_lem : (x : ℕ) → Parts.line_start p header_lines ≤ x → x < Parts.closing_start p → In p.body base x
  unfolding Parts.line_start Parts.closing_start
  line_of_lem x a b = locate p.body base x (omega arith) b

  line_from_lem : (x : ℕ) (i : In p.body base x) → Parts.line_start p i.line ≤ x
  unfolding Parts.line_start
  line_from_lem x i = i.from

  line_past : (x : ℕ) (i : In p.body base x) → x ≤ Parts.line_start p i.line + length (get_or p.body i.line [])
  unfolding Parts.line_start
  line_past x i = i.past

  -- a byte of a data line that is no blank and no end
  owned_at : (m a : ℕ) → header_lines ≤ m → m < length p.body → a ≤ length (get_or p.body m []) → (get_or file (Parts.line_start p m + a) 0 ≡ 32 → ⊥)
      → (get_or file (Parts.line_start p m + a) 0 ≡ 10 → ⊥) → (get_or file (Parts.line_start p m + a) 0 ≡ 13 → ⊥) → Owned p (stored_count s + padding_of p) (Parts.line_start p m + a)
  owned_at m a o l b blank lf cr =
      let z : header_lines + (m - header_lines) ≡ m = omega arith in
      let d : a < length (get_or p.body m []) = ⊎_elim (λ (q : a < length (get_or p.body m [])). q)
      (λ (q : length (get_or p.body m []) ≤ a). let y : length (get_or p.body m []) ≡ a = omega arith in absurd (lf (rw y at (line_end_lem file w.before w.from p ps w.stands m l))))
      (below_or_not a (length (get_or p.body m []))) in
      let v : get_or file (Parts.line_start p m + a) 0 ≡ get_or (get_or p.body m []) a 0 = line_byte_lem m a d in
      let c : a < length (columns true (get_or p.body m [])) = in_columns (get_or p.body m []) a d (λ q. cr (v ∙ q)) in
      let t : length (columns true (get_or p.body m [])) ≤ 80 = rw (columns_at_lem m) at (short_at m h.short) in
      let u : get_or (filled (columns true (get_or p.body m []))) a 32 ≡ 32 → ⊥ = (λ q. blank (v ∙ sym (column_byte (get_or p.body m []) a c t) ∙ q)) in
      rw z at (owned_column (m - header_lines) a (rw z l) (rw z u))

  pub byte_owned : (x : ℕ) → Parts.line_start p header_lines ≤ x → x < Parts.closing_start p → (get_or file x 0 ≡ 32 → ⊥) → (get_or file x 0 ≡ 10 → ⊥) → (get_or file x 0 ≡ 13 → ⊥)
      → Owned p (stored_count s + padding_of p) x
  byte_owned x a b blank lf cr =
      let i = line_of_lem x a b in
      let g : header_lines ≤ i.line
      = ⊎_elim (λ (q : i.line < header_lines). absurd (omega (arith, lines_apart p i.line header_lines i.some q, line_past x i)))
      (λ (q : header_lines ≤ i.line). q) (below_or_not i.line header_lines) in
      let z : Parts.line_start p i.line + (x - Parts.line_start p i.line) ≡ x = omega (arith, line_from_lem x i) in
      rw z at (owned_at i.line (x - Parts.line_start p i.line) g i.some (omega (arith, line_past x i)) (rw z blank) (rw z lf) (rw z cr))
