-- The lines of a set, the last of them cut behind its last counted number, are lines of the same set.
use Rattle.std.specs.Prelude.{◌≡◌, refl, Bool, true, false, List, [], ◌∷◌, ◌++◌, eqb, length, get_or, take, drop, replicate}
use Rattle.std.proofs.Common.{sym, ap, ◌∙◌, ⊎_elim, zero-mul, eqb-true, length-take, take-append-drop, take_all}
use Rattle.std.proofs.Math.Path.{subst}
use Prim.Native.Nat.{ℕ, zero, suc, ◌+◌, ◌-◌, ◌*◌, ◌≤◌, ◌<◌}
use native.Mathlib.Omega.{arith}
use Rattle.std.proofs.lemmas.List.{take-append-le}
use Rattle.laws.specs.Choice.{pick}
use Rattle.laws.specs.ChoiceLaws.{false_not_true, below_or_not}
use Rattle.text.specs.Blank.{Blanks}
use Rattle.text.specs.BlankLaws.{blanks_replicate}
use Rattle.line.specs.Line.{filled}
use Rattle.line.specs.LineLaws.{filled_short}
use Rattle.layout.specs.Columns.{line_of}
use Rattle.layout.specs.Layout.{fields_of, numbers_of}
use Rattle.field.specs.Item.{Item}
use Rattle.record_table.specs.Row.{Row, span, first_fields}
use Rattle.record_table.specs.Records.{plain, data_row}
use Rattle.record_table.specs.TypedSets.{header_lines}
use Rattle.record.specs.Declares.{count_by}
use Rattle.record.specs.Written.{InColumns, Written}
use Rattle.record.proofs.CutLaws.{in_columns_cut}
use Rattle.theory.specs.Sets.{Set}
use Rattle.theory.specs.Proper.{TypedLines, SetLines}
use Rattle.line_laws.specs.Short.{Short}
use Rattle.parts.specs.Padding.{last_field, counted_past}
use Rattle.parts_laws.specs.Declares.{set_case, seventh_of, declared}
use Rattle.parts_laws.specs.DeclaresLaws.{typed_58}
use Rattle.parts_laws.specs.Stored.{stored_count}
use Rattle.parts_laws.specs.StoredLaws.{stored_case}
use Rattle.parts_laws.specs.PaddingLaws.{last_line_lem, last_row, counted_span, data_inside, blank_past_lem}
use Rattle.rewriter.specs.Rewriter.{cut_last}
use Rattle.rewriter_laws.specs.Form.{counted_columns}

-- a line that is cut and filled with blanks: its first columns, and blanks
cut_filled : (P : List ℕ → Type 0) (k : ℕ) (cs : List ℕ) → length cs ≤ 80 → ((bl : List ℕ) → Blanks bl → P (take k (filled cs) ++ bl)) → P (filled (take k cs))
cut_filled P k cs h f = ⊎_elim short long (below_or_not (length cs) k)
  where
    short : length cs < k → P (filled (take k cs))
    short l = rw (take_all k cs (omega arith)) (subst P (take-append-drop k (filled cs)) (f (drop k (filled cs)) (blank_past_lem cs k (omega arith) h)))

    long : k ≤ length cs → P (filled (take k cs))
    long l =
        let m : length (take k cs) ≤ 80 = omega (arith, length-take k cs) in
        let same : take k (filled cs) ≡ take k cs = ap (take k) (filled_short cs h) ∙ take-append-le k cs (replicate (80 - length cs) 32) l in
        rw (filled_short (take k cs) m) (rw same at (f (replicate (80 - length (take k cs)) 32) (blanks_replicate (80 - length (take k cs)))))

-- a data line that is cut behind its due fields keeps its items, and is no delimiter
module _ (c m : ℕ) (below : c < 8) where
  abbrev row : Row
  row = first_fields (suc m) (data_row c)

  cut_line : {is : List Item} (cs : List ℕ) → length cs ≤ 80 → Written row is (filled cs) → Written row is (filled (take (span row.fields) cs))
  cut_line {is} cs h w =
      let k : ℕ = span row.fields in
      record { in_columns = cut_filled (InColumns row is) k cs h (λ bl b. in_columns_cut w.in_columns b); together = w.together; kept = w.kept }

  cut_typed : {rs : List Row} {iss : List (List Item)} {css : List (List ℕ)} → TypedLines rs iss css → Short css
      → get_or rs (length css - 1) (plain []) ≡ row → TypedLines rs iss (cut_last (span row.fields) css)
  unfolding cut_last
  cut_typed TypedLines.none s e = TypedLines.none
  cut_typed (TypedLines.more {r = r} {is = is} {cs = cs} w n TypedLines.none) (Short.more h Short.none) e =
      let own : Written row is (filled cs) = subst (λ (x : Row). Written x is (filled cs)) e w in
      let cut = cut_line cs h own in
      subst (λ (x : Row). TypedLines (x ∷ []) (is ∷ []) (take (span row.fields) cs ∷ [])) (sym e)
      (TypedLines.more cut (data_inside c m below cut.in_columns) TypedLines.none)
  cut_typed (TypedLines.more w n (TypedLines.more {css = css} v o t)) (Short.more h s) e =
      let z : suc (suc (length css)) - 1 ≡ suc (suc (length css) - 1) = omega arith in
      TypedLines.more w n (cut_typed (TypedLines.more v o t) s (rw z at e))

-- a set that stores a number is a 58
pub stored_58 : (s : Set) → eqb (stored_count s) 0 ≡ false → s.number ≡ 58
unfolding stored_count declared
stored_58 s h = by (eqb s.number 58) refl h
  where
    by : (t : Bool) → eqb s.number 58 ≡ t → eqb (pick t (count_by (seventh_of s)) 0 * numbers_of (set_case s)) 0 ≡ false → s.number ≡ 58
    by true e g = eqb-true s.number 58 e
    by false e g = false_not_true (sym g ∙ rw (zero-mul (numbers_of (set_case s))) refl)

not_zero : (n : ℕ) → eqb n 0 ≡ false → 0 < n
not_zero zero e = false_not_true (sym e)
not_zero (suc n) e = omega arith

-- all 80 columns of a line
cut_none : {css : List (List ℕ)} → Short css → cut_last 80 css ≡ css
unfolding cut_last
cut_none Short.none = refl
cut_none (Short.more {cs} h Short.none) = rw (take_all 80 cs h) refl
cut_none (Short.more {cs} h (Short.more g s)) = ap (◌∷◌ cs) (cut_none (Short.more g s))

pub cut_short : (k : ℕ) {css : List (List ℕ)} → Short css → Short (cut_last k css)
unfolding cut_last
cut_short k Short.none = Short.none
cut_short k (Short.more {cs} h Short.none) = Short.more {cs = take k cs} (omega (arith, length-take k cs)) Short.none
cut_short k (Short.more h (Short.more g s)) = Short.more h (cut_short k (Short.more g s))

cut_58 : {s : Set} {css : List (List ℕ)} → SetLines s css → Short css → s.number ≡ 58 → 0 < stored_count s
    → length css - 1 ≡ header_lines + line_of (fields_of (set_case s)) (stored_count s - 1)
    → SetLines s (cut_last (counted_past (set_case s) (stored_count s)) css)
cut_58 {s} (SetLines.typed t l) h e some q =
    let c : ℕ = set_case s in
    let m : ℕ = last_field c (stored_count s) in
    SetLines.typed t (rw (counted_span c (stored_count s)) at (cut_typed c m (stored_case s 0 some) l h (rw q (last_row s e some))))
cut_58 (SetLines.plain t l) h e some q = false_not_true (sym (rw e at t) ∙ typed_58)

pub cut_lines : {s : Set} {css : List (List ℕ)} → SetLines s css → Short css → SetLines s (cut_last (counted_columns s) css)
unfolding counted_columns
cut_lines {s} {css} l h = by (eqb (stored_count s) 0) refl
  where
    by : (t : Bool) → eqb (stored_count s) 0 ≡ t → SetLines s (cut_last (pick t 80 (counted_past (set_case s) (stored_count s))) css)
    by true e = rw (cut_none h) l
    by false e =
        let some : 0 < stored_count s = not_zero (stored_count s) e in
        cut_58 l h (stored_58 s e) some (last_line_lem l (stored_58 s e) some)
