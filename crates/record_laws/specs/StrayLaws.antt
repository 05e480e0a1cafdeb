-- The search for a byte outside the fields finds the first one, or there is none.
use Rattle.std.specs.Prelude.{◌≡◌, Bool, true, false, eqb, get_or, take, drop}
use Rattle.std.proofs.Math.Path.{refl}
use Rattle.std.proofs.Common.{sym, ◌∙◌, eqb-true, drop_of_length-le, drop-cons}
use Rattle.std.proofs.Math.Logic.{⊎_elim}
use mathlib.Core.List.{List, [], ◌∷◌}
use Prim.{Unit, tt}
use Prim.Native.Nat.{ℕ, zero, suc, ◌+◌, ◌-◌, ◌≤◌, ◌<◌}
use Rattle.std.proofs.Math.Numerals.{add-one}
use native.Mathlib.Omega.{arith}
use Rattle.std.proofs.lemmas.Bool.{eqb-false}
use Rattle.std.proofs.Math.ListN.{length, get_or-eq_default}
use Rattle.laws.specs.Choice.{pick}
use Rattle.laws.specs.ChoiceLaws.{below_or_not}
use Rattle.codes.specs.Form.{Form, skip, text, identification, real, integer}
use Rattle.layout.specs.Columns.{field_start}
use Rattle.record_table.specs.Row.{Field}
use Rattle.record.specs.Check.{first_non_blank, or_column, stray_in, stray}
use Rattle.record.specs.CheckLaws.{or_column_here}
use Rattle.record_laws.specs.Fault.{field_at, left_of, First, Inside, Stray}

module _ (line : List ℕ) where
  -- the byte of a column is a blank; so is every one past the line's end
  abbrev BlankAt : ℕ → Type 0
  BlankAt c = get_or line (c - 1) 32 ≡ 32

  blank_past_lem : (c : ℕ) → length line < c → BlankAt c
  blank_past_lem c h = get_or-eq_default line 32 (omega arith)

  -- The columns after `at`, up to a last one.

  data Scanned (at last : ℕ) : ℕ → Type 0 where
    found : (c : ℕ) → at < c → c ≤ last → (BlankAt c → ⊥) → ((i : ℕ) → at < i → i < c → BlankAt i) → Scanned at last c
    clear : ((i : ℕ) → at < i → i ≤ last → BlankAt i) → Scanned at last 0

  blank_next : (at : ℕ) {P : ℕ → Type 0} → BlankAt (at + 1) → ((i : ℕ) → at + 1 < i → P i → BlankAt i) → (i : ℕ) → at < i → P i → BlankAt i
  blank_next at b r i h p =
      ⊎_elim (λ (l : i < at + 2). let e : i ≡ at + 1 = omega arith in rw e b) (λ (l : at + 2 ≤ i). r i (omega arith) p) (below_or_not i (at + 2))

  scanned_next : {at last c : ℕ} → BlankAt (at + 1) → Scanned (at + 1) last c → Scanned at last c
  scanned_next {at} b (found c f l n r) = found c (omega arith) l n (blank_next at b r)
  scanned_next {at} b (clear r) = clear (blank_next at b r)

  -- the byte of column at + 1
  byte_next : (at : ℕ) → get_or line (at + 1 - 1) 32 ≡ get_or line at 32
  byte_next at = let e : at + 1 - 1 ≡ at = omega arith in rw e refl

  -- one column more in front of those after `at`, where the line has it
  scanned_more : (w at : ℕ) → Scanned (at + 1) (at + 1 + w) (first_non_blank (at + 1 + 1) (take w (drop (at + 1) line))) → at < length line
      → Scanned at (at + suc w) (first_non_blank (at + 1) (take (suc w) (drop at line)))
  unfolding first_non_blank
  scanned_more w at r h = rw (drop-cons line at 32 h) (by (eqb (get_or line at 32) 32) refl)
    where
      further : Scanned (at + 1) (at + suc w) (first_non_blank (at + 1 + 1) (take w (drop (suc at) line)))
      further = let e : at + 1 + w ≡ at + suc w = omega arith in rw (add-one at) (rw (e, add-one at) at r)

      by : (t : Bool) → eqb (get_or line at 32) 32 ≡ t → Scanned at (at + suc w) (pick t (first_non_blank (at + 1 + 1) (take w (drop (suc at) line))) (at + 1))
      by true e = scanned_next (byte_next at ∙ eqb-true _ 32 e) further
      by false e = found (at + 1) (omega arith) (omega arith) (λ b. eqb-false _ 32 e (sym (byte_next at) ∙ b)) (λ i f l. absurd (omega arith))

  scanned : (w at : ℕ) → Scanned at (at + w) (first_non_blank (at + 1) (take w (drop at line)))
  unfolding first_non_blank
  scanned zero at = clear (λ i f l. absurd (omega arith))
  scanned (suc w) at =
      ⊎_elim (scanned_more w at (scanned w (at + 1)))
      (λ (h : length line ≤ at). rw (drop_of_length-le line h) (clear (λ i f l. blank_past_lem i (omega arith))))
      (below_or_not at (length line))

  -- The fields from the column after `at` on.

  record InsideFrom (at : ℕ) (fs : List Field) (c k : ℕ) : Type 0 where
    form : (field_at fs k).form ≡ skip → ⊥
    from : at + left_of fs k < c
    past : c ≤ at + left_of fs k + (field_at fs k).width

  abbrev OutsideFrom : ℕ → List Field → ℕ → Type 0
  OutsideFrom at fs c = (k : ℕ) → InsideFrom at fs c k → ⊥

  data Searched (at : ℕ) (fs : List Field) : ℕ → Type 0 where
    found : (c : ℕ) → at < c → (BlankAt c → ⊥) → OutsideFrom at fs c → ((i : ℕ) → at < i → i < c → OutsideFrom at fs i → BlankAt i) → Searched at fs c
    clear : ((i : ℕ) → at < i → OutsideFrom at fs i → BlankAt i) → Searched at fs 0

  module _ (at : ℕ) (f : Field) (fs : List Field) where
    -- a column right of the first field is outside where it is outside the others
    outside_next : (c : ℕ) → at + f.width < c → OutsideFrom (at + f.width) fs c → OutsideFrom at (f ∷ fs) c
    unfolding field_start
    outside_next c h o zero i = absurd (omega (arith, i.past))
    outside_next c h o (suc k) i = o k (record { form = i.form; from = omega (arith, i.from); past = omega (arith, i.past) })

    outside_rest : (c : ℕ) → OutsideFrom at (f ∷ fs) c → OutsideFrom (at + f.width) fs c
    unfolding field_start
    outside_rest c o k i = o (suc k) (record { form = i.form; from = omega (arith, i.from); past = omega (arith, i.past) })

    -- the columns of the first field, then those after it
    blank_on : {P : ℕ → Type 0} → ((i : ℕ) → at < i → i ≤ at + f.width → OutsideFrom at (f ∷ fs) i → BlankAt i)
        → ((i : ℕ) → at + f.width < i → P i → OutsideFrom (at + f.width) fs i → BlankAt i)
        → (i : ℕ) → at < i → P i → OutsideFrom at (f ∷ fs) i → BlankAt i
    blank_on own r i h p o =
        ⊎_elim (λ (l : at + f.width < i). r i l p (outside_rest i o)) (λ (l : i ≤ at + f.width). own i h l o) (below_or_not (at + f.width) i)

    searched_next : {c : ℕ} → ((i : ℕ) → at < i → i ≤ at + f.width → OutsideFrom at (f ∷ fs) i → BlankAt i) → Searched (at + f.width) fs c
        → Searched at (f ∷ fs) c
    searched_next own (found c h n o r) = found c (omega arith) n (outside_next c h o) (blank_on own r)
    searched_next own (clear r) = clear (λ i h o. blank_on {P = λ (i : ℕ). Unit {0}} own (λ i h p o. r i h o) i h tt o)

    -- no column of a field that is none of skipped columns is outside
    owned : (f.form ≡ skip → ⊥) → (i : ℕ) → at < i → i ≤ at + f.width → OutsideFrom at (f ∷ fs) i → BlankAt i
    unfolding field_start
    owned n i h l o = absurd (o 0 (record { form = n; from = omega arith; past = omega arith }))

    -- skipped columns
    searched_skipped : {c rest : ℕ} → f.form ≡ skip → Scanned at (at + f.width) c → Searched (at + f.width) fs rest → Searched at (f ∷ fs) (or_column c rest)
    unfolding field_start
    searched_skipped {rest = rest} e (found c h l n r) s = rw (or_column_here c rest (omega arith)) (found c h n outside (λ i g m o. r i g m))
      where
        outside : OutsideFrom at (f ∷ fs) c
        outside zero i = i.form e
        outside (suc k) i = omega (arith, i.from)
    searched_skipped e (clear r) s = searched_next (λ i h l o. r i h l) s

    searched_form : (g : Form) → f.form ≡ g → {rest : ℕ} → Searched (at + f.width) fs rest
        → Searched at (f ∷ fs) (or_column (stray_in g (at + 1) (take f.width (drop at line))) rest)
    searched_form skip e s = searched_skipped e (scanned f.width at) s
    searched_form text e s = searched_next (owned (λ q. let z : ◌≡◌ {A = ℕ} 0 1 = cc in omega arith)) s
    searched_form identification e s = searched_next (owned (λ q. let z : ◌≡◌ {A = ℕ} 0 1 = cc in omega arith)) s
    searched_form real e s = searched_next (owned (λ q. let z : ◌≡◌ {A = ℕ} 0 1 = cc in omega arith)) s
    searched_form (integer u o) e s = searched_next (owned (λ q. let z : ◌≡◌ {A = ℕ} 0 1 = cc in omega arith)) s

  module _ (short : length line ≤ 80) where
    -- past the last field, to column 80
    searched_rest : {at c : ℕ} → Scanned at (at + (80 - at)) c → Searched at [] c
    searched_rest (found c h l n r) = found c h n (λ k i. i.form refl) (λ i g m o. r i g m)
    searched_rest {at} (clear r) =
        clear (λ i h o. ⊎_elim (λ (l : at + (80 - at) < i). blank_past_lem i (omega arith)) (λ (l : i ≤ at + (80 - at)). r i h l) (below_or_not (at + (80 - at)) i))

    searched : (at : ℕ) (fs : List Field) → Searched at fs (stray fs at line)
    unfolding stray
    searched at [] = searched_rest (scanned (80 - at) at)
    searched at (f ∷ fs) = searched_form at f fs f.form refl (searched (at + f.width) fs)

    -- the column found is the first; where none is found there is none
    module _ (fs : List Field) where
      inside_from : {c k : ℕ} → Inside line fs c k → InsideFrom 0 fs c k
      inside_from i = record { form = i.form; from = omega (arith, i.from); past = omega (arith, i.past) }

      from_inside : {c k : ℕ} → InsideFrom 0 fs c k → Inside line fs c k
      from_inside i = record { form = i.form; from = omega (arith, i.from); past = omega (arith, i.past) }

      none_before : {P : ℕ → Type 0} → ((i : ℕ) → 0 < i → P i → OutsideFrom 0 fs i → BlankAt i) → (c : ℕ) → P c → Stray line fs c → ⊥
      none_before r c p s = s.byte (r c s.some p (λ k i. s.outside k (from_inside i)))

      first_stray : {c : ℕ} → Searched 0 fs c → 0 < c → First (Stray line fs) c
      first_stray (found c h n o r) p = record { here = record { some = h; byte = n; outside = λ k i. o k (inside_from i) }; before = none_before r }
      first_stray (clear r) p = absurd (omega arith)

      no_stray : {c : ℕ} → Searched 0 fs c → c ≡ 0 → (c : ℕ) → Stray line fs c → ⊥
      no_stray (found c h n o r) e = absurd (omega arith)
      no_stray (clear r) e = λ c s. none_before {P = λ (i : ℕ). Unit {0}} (λ i h p o. r i h o) c tt s

      pub stray_first : 0 < stray fs 0 line → First (Stray line fs) (stray fs 0 line)
      stray_first p = first_stray (searched 0 fs) p

      pub stray_none : stray fs 0 line ≡ 0 → (c : ℕ) → Stray line fs c → ⊥
      stray_none e = no_stray (searched 0 fs) e

-- a byte outside the fields is one of the line's
pub stray_inside : {line : List ℕ} {fs : List Field} {c : ℕ} → Stray line fs c → c ≤ length line
stray_inside {line} {c = c} s = ⊎_elim (λ (h : length line < c). absurd (s.byte (blank_past_lem line c h))) (λ h. h) (below_or_not (length line) c)
