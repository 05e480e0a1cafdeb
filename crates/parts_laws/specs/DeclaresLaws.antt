-- The dataset number, the declared count and the case of a set in a text are the list's.
use Rattle.std.specs.Prelude.{◌≡◌, refl, Bool, true, false, List, [], ◌∷◌, map, ℕ, zero, suc, ◌<◌, eqb, length, get_or, drop}
use Rattle.std.proofs.Common.{sym, ap, subst, ◌∙◌, arith, eqb-true}
use Rattle.std.proofs.Math.ListN.{get_or-map}
use Rattle.laws.specs.Choice.{pick}
use Rattle.laws.specs.ChoiceLaws.{false_not_true}
use Rattle.line.specs.Line.{columns, without_return, filled}
use Rattle.line.specs.LineLaws.{filled_length}
use Rattle.delimiter.proofs.KindLaws.{dataset_number_complete}
use Rattle.field.specs.Item.{Item}
use Rattle.record_table.specs.Row.{Row}
use Rattle.record_table.specs.TypedSets.{kind_of, is_typed, sequence, typed_sets, line_seven}
use Rattle.record_table.specs.Records.{plain, record_of, data_form}
use Rattle.record.specs.Check.{items_of}
use Rattle.record.specs.Written.{Written}
use Rattle.record_laws.specs.RowGroupLaws.{record_of_readable}
use Rattle.record_laws.specs.LineReadingLaws.{written_complete}
use Rattle.theory.specs.Sets.{Set}
use Rattle.theory.specs.Due.{set_rows}
use Rattle.theory.specs.Proper.{TypedLines, SetLines}
use Rattle.parts.specs.Parts.{Part, dataset_of, line_of, past_of, through_of}
use Rattle.parts.specs.Function as Function
use Rattle.record.specs.Declares.{count_by, count_in}
use Rattle.record.specs.DeclaresLaws.{Declares, declares_items}
use Rattle.parts_laws.specs.Holds.{columns_of, Holds, AtPlaces}
use Rattle.parts_laws.specs.Declares.{seventh_of, declared, set_case, Found}

-- line k of a typed set is written by its row
pub typed_line : {rs : List Row} {iss : List (List Item)} {css : List (List ℕ)} (k : ℕ) → TypedLines rs iss css → k < length rs
    → Written (get_or rs k (plain [])) (get_or iss k []) (filled (get_or css k []))
typed_line k TypedLines.none h = absurd (omega arith)
typed_line zero (TypedLines.more w n l) h = w
typed_line (suc k) (TypedLines.more w n l) h = typed_line k l (omega arith)

pub typed_length : {rs : List Row} {iss : List (List Item)} {css : List (List ℕ)} → TypedLines rs iss css → length css ≡ length rs
typed_length TypedLines.none = refl
typed_length (TypedLines.more w n l) = ap suc (typed_length l)

-- line k of a set in a text, by its columns
pub line_of_columns : (p : Part) (k : ℕ) → line_of p k ≡ filled (get_or (columns_of p.body) k [])
unfolding line_of columns without_return
line_of_columns p k = ap filled (sym (get_or-map (columns true) p.body k []))

-- the dataset number
pub number_held : {s : Set} {p : Part} → Holds s p → dataset_of p ≡ s.number
unfolding dataset_of
number_held h = dataset_number_complete h.number

-- line 7 of a 58
pub seventh : (iss : List (List Item)) (css : List (List ℕ)) → TypedLines (set_rows 58 iss) iss css → Written (record_of data_form) (get_or iss line_seven []) (filled (get_or css line_seven []))
unfolding set_rows kind_of sequence typed_sets
seventh iss css l = typed_line line_seven l (omega arith)

pub typed_58 : is_typed 58 ≡ true
unfolding is_typed kind_of typed_sets
typed_58 = refl

seventh_items : {s : Set} {css : List (List ℕ)} → SetLines s css → s.number ≡ 58 → items_of (record_of data_form).fields 0 (filled (get_or css line_seven [])) ≡ get_or s.lines line_seven []
seventh_items (SetLines.typed {n} {iss} {css} t l) e =
    let w : Written (record_of data_form) (get_or iss line_seven []) (filled (get_or css line_seven [])) = seventh iss css (rw e at l) in
    (written_complete (filled (get_or css line_seven [])) (filled_length (get_or css line_seven [])) (record_of data_form) (get_or iss line_seven []) (record_of_readable data_form) w).1
seventh_items (SetLines.plain {n} t l) e = false_not_true (sym (rw e at t) ∙ typed_58)

module _ {s : Set} {p : Part} (h : Holds s p) (e : s.number ≡ 58) where
  items_held : items_of (record_of data_form).fields 0 (line_of p line_seven) ≡ get_or s.lines line_seven []
  items_held = rw (line_of_columns p line_seven) (seventh_items h.lines e)

  -- its columns declare what its items do
  seventh_held : Declares (line_of p line_seven) (seventh_of s)
  seventh_held = rw items_held at (declares_items (line_of p line_seven))

  pub count_held : count_in (line_of p line_seven) ≡ count_by (seventh_of s)
  count_held = seventh_held.count

  pub case_held : Function.part_case p ≡ set_case s
  unfolding Function.part_case set_case
  case_held = seventh_held.case

-- the declared count
pub declared_held : {s : Set} {p : Part} → Holds s p → Function.count_of p ≡ declared s
unfolding Function.count_of declared
declared_held {s} {p} h = rw (number_held h) (by (eqb s.number 58) refl)
  where
    by : (t : Bool) → eqb s.number 58 ≡ t → pick t (count_in (line_of p line_seven)) 0 ≡ pick t (count_by (seventh_of s)) 0
    by true q = count_held h (eqb-true s.number 58 q)
    by false q = refl

-- of all sets, in order
module _ {A : Type 0} (f : Set → A) (g : Part → A) (same : (s : Set) (p : Part) → Holds s p → g p ≡ f s) where
  pub all_held : {n at : ℕ} {ss : List Set} {ps : List Part} {ls : List (List ℕ)} → AtPlaces n at ss ps ls → map g ps ≡ map f ss
  all_held (AtPlaces.end b) = refl
  all_held (AtPlaces.more {s = s} {p = p} before after b l c h r) = rw (same s p h, all_held r) refl

pub as_many : {n at : ℕ} {ss : List Set} {ps : List Part} {ls : List (List ℕ)} → AtPlaces n at ss ps ls → length ps ≡ length ss
as_many (AtPlaces.end b) = refl
as_many (AtPlaces.more before after b l c h r) = ap suc (as_many r)

pub stand_at : {n at : ℕ} {ss : List Set} {ps : List Part} {ls : List (List ℕ)} (k : ℕ) (s : Set) (rest : List Set) → AtPlaces n at ss ps ls → drop k ss ≡ s ∷ rest → Found ps k s
stand_at zero s rest (AtPlaces.end b) e = let z : 0 ≡ suc (length rest) = ap length e in absurd (omega arith)
stand_at (suc k) s rest (AtPlaces.end b) e = let z : 0 ≡ suc (length rest) = ap length e in absurd (omega arith)
stand_at zero s rest (AtPlaces.more {s = t} {p = p} {ps = ps} before after b l c h r) e =
    let q : t ≡ s = cc in
    record { part = p; others = ps; sets = refl; holds = subst (λ (x : Set). Holds x p) q h }
stand_at {n = n} {at = at} (suc k) s rest (AtPlaces.more {p = p} {ps = ps} before after b l c h r) e =
    let f = stand_at {n = through_of p} {at = past_of p} k s rest r e in
    record { part = f.part; others = f.others; sets = f.sets; holds = f.holds }
