-- A field that fits the columns of the usual spelling, an exponent's first digit being 0, is one that is read by one product or quotient.
use Rattle.std.specs.Prelude.{◌≡◌, refl, ◌⊎◌, Bool, false, ◌||◌, ℕ, zero, suc, ◌+◌, ◌-◌, ◌≤◌, ◌<◌, eqb, replicate}
use Rattle.std.proofs.Common.{ap, ◌∙◌, inl, inr, ⊎_elim, le_of_suc-le-suc, not-suc-le-zero, eq-eqb, length-append, get_or-append-add}
use Rattle.std.proofs.Math.Bool.{true}
use mathlib.Core.List.{List, [], ◌∷◌, ◌++◌}
use native.Mathlib.Omega.{arith}
use Rattle.std.proofs.Math.ListN.{length, get_or, length-replicate, get_or-append}
use Rattle.laws.specs.ChoiceLaws.{and_both}
use Rattle.text.specs.Parts.{is_digit}
use Rattle.text.specs.PartsLaws.{is_digit_complete}
use Rattle.real.specs.Real.{is_letter}
use Rattle.real.specs.ByteLaws.{is_letter_sound}
use Rattle.real.specs.Plain.{is_plain, is_lettered}
use Rattle.usual_columns.specs.Cells.{Takes, digit, digit_to, exponent_cells, field_cells, Fits}
use Rattle.usual_columns.specs.CellsLaws.{fits_split, fits_length}
use Rattle.usual_columns.specs.FieldLaws.{takes_blank, takes_minus_lem, takes_digit, takes_point, takes_letter, takes_sign}
use Rattle.usual_values.specs.Usual.{UsualField}

-- what a column takes, as the reader asks it
or_left : (a b : Bool) → a ≡ true → a || b ≡ true
or_left a b e = rw e refl

or_right : (a b : Bool) → b ≡ true → a || b ≡ true
or_right true b e = refl
or_right false b e = e

one_of_two : (b x y : ℕ) → (b ≡ x) ⊎ (b ≡ y) → eqb b x || eqb b y ≡ true
one_of_two b x y h = ⊎_elim (λ (e : b ≡ x). or_left _ _ (eq-eqb b x e)) (λ (e : b ≡ y). or_right (eqb b x) _ (eq-eqb b y e)) h

is_digit_lem : {b : ℕ} → Takes digit b → is_digit b ≡ true
is_digit_lem {b} t = let h = takes_digit t in is_digit_complete b h.0 h.1

is_zero : {b : ℕ} → Takes (digit_to 0) b → b ≡ 48
is_zero (inl (r, h, e)) = omega arith
is_zero (inr e) = e

digits_fit : (n : ℕ) {l : List ℕ} → Fits (replicate n digit) l → (i : ℕ) → i < length l → is_digit (get_or l i 0) ≡ true
digits_fit zero Fits.none i h = absurd (not-suc-le-zero h)
digits_fit (suc n) (Fits.more t f) zero h = is_digit_lem t
digits_fit (suc n) (Fits.more t f) (suc i) h = digits_fit n f i (le_of_suc-le-suc h)

-- columns past the first four: those of the digits after the point, and those past them
module _ (b0 b1 b2 b3 : ℕ) (p y : List ℕ) where
  abbrev l : List ℕ
  l = b0 ∷ b1 ∷ b2 ∷ b3 ∷ (p ++ y)

  column_part : (i : ℕ) → 4 ≤ i → i < length p + 4 → get_or l i 0 ≡ get_or p (i - 4) 0
  column_part i low high =
      let e : i ≡ suc (suc (suc (suc (i - 4)))) = omega arith in
      ap (λ (k : ℕ). get_or l k 0) e ∙ get_or-append p y 0 (i - 4) (omega arith)

  column_past : (i j : ℕ) → i ≡ length p + 4 + j → get_or l i 0 ≡ get_or y j 0
  column_past i j q =
      let e : i ≡ suc (suc (suc (suc (length p + j)))) = omega arith in
      ap (λ (k : ℕ). get_or l k 0) e ∙ get_or-append-add p y j 0

  column_count : length l ≡ length p + length y + 4
  column_count = let n = length-append p y in omega arith

module _ (b w : ℕ) (x : is_letter b ≡ true) (wide : 9 ≤ w) (narrow : w ≤ 21) where
  pub field_usual : {l : List ℕ} → Fits (field_cells b 0 w) l → UsualField l
  unfolding field_cells is_plain is_lettered
  field_usual (Fits.more {b = b0} t0 (Fits.more {b = b1} t1 (Fits.more {b = b2} t2 (Fits.more {b = b3} t3 f)))) =
      let s = fits_split (replicate (w - 8) digit) (exponent_cells b 0) f in
      rw s.is (ending s.first s.fits_first s.fits_second)
    where
      ending : {y : List ℕ} (p : List ℕ) → Fits (replicate (w - 8) digit) p → Fits (exponent_cells b 0) y → UsualField (b0 ∷ b1 ∷ b2 ∷ b3 ∷ (p ++ y))
      ending p fp (Fits.more {b = e0} tl (Fits.more {b = e1} ts (Fits.more {b = e2} td (Fits.more {b = e3} tz Fits.none)))) =
          let y = e0 ∷ e1 ∷ e2 ∷ e3 ∷ [] in
          let n : length p ≡ w - 8 = fits_length fp ∙ length-replicate (w - 8) digit in
          let l = b0 ∷ b1 ∷ b2 ∷ b3 ∷ (p ++ y) in
          let count : length l ≡ length p + 8 = column_count b0 b1 b2 b3 p y ∙ omega arith in
          let past : (i j : ℕ) → i ≡ length p + 4 + j → get_or l i 0 ≡ get_or y j 0 = column_past b0 b1 b2 b3 p y in
          let letter : is_letter e0 ≡ true = rw (takes_letter (is_letter_sound b x) tl) x in
          record {
            wide = omega arith;
            narrow = omega arith;
            plain = and_both (eqb b0 32) _ (eq-eqb b0 32 (takes_blank t0)) (and_both _ (eqb b3 46) (one_of_two b1 32 45 (takes_minus_lem t1)) (eq-eqb b3 46 (takes_point t3)));
            whole = is_digit_lem t2;
            part = λ i low high. rw (column_part b0 b1 b2 b3 p y i low (omega arith)) (digits_fit (w - 8) fp (i - 4) (omega arith));
            lettered = rw (past (length l - 4) 0 (omega arith), past (length l - 3) 1 (omega arith)) (and_both (is_letter e0) _ letter (one_of_two e1 43 45 (takes_sign ts)));
            tens = past (length l - 2) 2 (omega arith) ∙ is_zero td;
            last = rw (past (length l - 1) 3 (omega arith)) (is_digit_lem tz);
          }
