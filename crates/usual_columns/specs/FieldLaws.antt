-- Columns that fit a field of the usual spelling spell a real, and hold only bytes that may stand in columns.
use Rattle.std.specs.Prelude.{◌≡◌, ℕ, zero, suc, ◌+◌, ◌-◌, ◌*◌, ◌<◌, ◌≤◌, Bool, true, false, ◌⊎◌, List, [], ◌∷◌, ◌++◌, length, replicate, ℤ, ◌≢◌, Ok}
use Rattle.std.proofs.Common.{◌∙◌, inl, inr, ⊎_elim, arith, ne_eqb}
use Rattle.std.proofs.Math.ListN.{length-replicate}
use Rattle.laws.specs.Cut.{line_len}
use Rattle.text.specs.Blank.{none, one, Blanks}
use Rattle.text.specs.Parts.{Digits, Sign}
use Rattle.line.specs.Line.{Allowed}
use Rattle.line.specs.LineLaws.{allowed_append}
use Rattle.real.specs.Spelling.{Letter, ExponentSign, ExponentSpelling, TwoOrThree, RealSpelling, spelled}
use Rattle.real.specs.Real.{real_of, number_of}
use Rattle.real.proofs.RealLaws.{real_of_complete}
use Rattle.real.specs.declared.Number.{Number}
use Rattle.usual_columns.specs.declared.Cell.{Cell}
use Rattle.usual_columns.specs.Cells.{Takes, blank, minus, digit, digit_to, point, lettered, sign, exponent_cells, field_cells, Fits}
use Rattle.usual_columns.specs.CellsLaws.{fits_split, fits_length}

-- a text of three columns at least, the third of which is no blank
pub data Third : List ℕ → Type 0 where
  third : (a b : ℕ) {c : ℕ} {l : List ℕ} → (c ≢ 32) → Third (a ∷ b ∷ c ∷ l)

-- what a column of each kind takes
pub takes_blank : {b : ℕ} → Takes blank b → b ≡ 32
takes_blank (inl (r, h, e)) = omega arith
takes_blank (inr e) = e

pub takes_minus_lem : {b : ℕ} → Takes minus b → (b ≡ 32) ⊎ (b ≡ 45)
takes_minus_lem (inl (r, h, e)) = inl (omega arith)
takes_minus_lem (inr e) = inr e

pub takes_digit : {b : ℕ} → Takes digit b → (48 ≤ b) × (b ≤ 57)
takes_digit (inl (r, h, e)) = (omega arith, omega arith)
takes_digit (inr e) = (omega arith, omega arith)

-- a digit up to a lower one is a digit
takes_lower : {m b : ℕ} → m ≤ 9 → Takes (digit_to m) b → Takes digit b
takes_lower l (inl (r, h, e)) = inl (r, omega arith, e)
takes_lower l (inr e) = inr e

pub takes_point : {b : ℕ} → Takes point b → b ≡ 46
takes_point (inl (r, h, e)) = omega arith
takes_point (inr e) = e

letter_low : {l : ℕ} → Letter l → l < 127
letter_low Letter.E = omega arith
letter_low Letter.e = omega arith
letter_low Letter.D = omega arith
letter_low Letter.d = omega arith

letter_high : {l : ℕ} → Letter l → 32 ≤ l
letter_high Letter.E = omega arith
letter_high Letter.e = omega arith
letter_high Letter.D = omega arith
letter_high Letter.d = omega arith

pub takes_letter : {l b : ℕ} → Letter l → Takes (lettered l) b → b ≡ l
takes_letter {l} {b} x (inl (r, h, e)) = omega (arith, letter_low x)
takes_letter x (inr e) = e

pub takes_sign : {b : ℕ} → Takes sign b → (b ≡ 43) ⊎ (b ≡ 45)
takes_sign (inl (r, h, e)) = inl (omega arith)
takes_sign (inr e) = inr e

-- a run of digits after a number m
pub record Spelled (m : ℕ) (l : List ℕ) : Type 0 where
  pub value : ℕ
  pub digits : Digits m l value

spelled_digits : (n m : ℕ) {l : List ℕ} → Fits (replicate n digit) l → Spelled m l
spelled_digits zero m Fits.none = record { value = m; digits = Digits.none }
spelled_digits (suc n) m (Fits.more {b = b} t f) =
    let r = spelled_digits n (m * 10 + (b - 48)) f in
    let h = takes_digit t in
    record { value = r.value; digits = Digits.more h.0 h.1 r.digits }

-- the sign of an exponent
pub record Signed (b : ℕ) : Type 0 where
  pub down : Bool
  pub sign : ExponentSign down b

signed_by : {b : ℕ} → Takes sign b → Signed b
signed_by t = ⊎_elim (λ e. rw e (record { down = false; sign = ExponentSign.plus })) (λ e. rw e (record { down = true; sign = ExponentSign.minus })) (takes_sign t)

-- what a field holds
pub record Holds (l : List ℕ) : Type 0 where
  pub number : Number
  pub is : real_of l ≡ Ok number

holds_spelled : {n : Bool} {c : ℕ} {s : ℤ} {l : List ℕ} → RealSpelling n c s l → Holds l
holds_spelled {n} {c} {s} r = record { number = number_of n c s; is = real_of_complete r }

-- two blanks and no sign, or a blank and a minus
front : {c x : ℕ} {xn : Bool} (a b d p : ℕ) (part exponent : List ℕ) → a ≡ 32 → (b ≡ 32) ⊎ (b ≡ 45) → p ≡ 46
    → Digits 0 (d ∷ part) c → length part ≤ 17 → ExponentSpelling xn x exponent → Holds (a ∷ b ∷ d ∷ p ∷ (part ++ exponent))
front a b d p part exponent ea eb ep ds h xx =
    rw (ea, ep)
    (⊎_elim
    (λ e. rw e (holds_spelled (spelled (32 ∷ 32 ∷ []) [] (d ∷ []) part exponent (one (one none)) Sign.bare ds (omega arith) (omega arith) xx)))
    (λ e. rw e (holds_spelled (spelled (32 ∷ []) (45 ∷ []) (d ∷ []) part exponent (one none) Sign.minus ds (omega arith) (omega arith) xx)))
    eb)

-- the exponent: the letter, a sign, two digits
back : {l s : ℕ} {ex : List ℕ} (b : ℕ) → Letter b → Takes (lettered b) l → (g : Signed s) → (d : Spelled 0 ex) → length ex ≡ 2
    → ExponentSpelling g.down d.value (l ∷ s ∷ ex)
back {l} {s} {ex} b x t g d n = rw (takes_letter x t) (ExponentSpelling.lettered ex x g.sign d.digits (rw n TwoOrThree.two))

-- a field's columns: its first four, the digits after the point, its last four
module _ (b m w : ℕ) (x : Letter b) (low : m ≤ 9) where
  pub field_holds : {l : List ℕ} → w ≤ 25 → Fits (field_cells b m w) l → Holds l
  unfolding field_cells
  field_holds high (Fits.more {b = b0} t0 (Fits.more {b = b1} t1 (Fits.more {b = b2} t2 (Fits.more {b = b3} t3 f)))) =
      let s = fits_split (replicate (w - 8) digit) (exponent_cells b m) f in
      rw s.is (ending s.first s.fits_first s.fits_second)
    where
      ending : {y : List ℕ} (p : List ℕ) → Fits (replicate (w - 8) digit) p → Fits (exponent_cells b m) y → Holds (b0 ∷ b1 ∷ b2 ∷ b3 ∷ (p ++ y))
      ending p fp (Fits.more tl (Fits.more ts (Fits.more td fd))) =
          let n : length p ≡ w - 8 = fits_length fp ∙ length-replicate (w - 8) digit in
          let first = takes_digit t2 in
          let whole = Digits.more first.0 first.1 (spelled_digits (w - 8) (0 * 10 + (b2 - 48)) fp).digits in
          let two : Fits (replicate 2 digit) _ = Fits.more (takes_lower low td) fd in
          front b0 b1 b2 b3 p _ (takes_blank t0) (takes_minus_lem t1) (takes_point t3) whole (omega arith)
          (back b x tl (signed_by ts) (spelled_digits 2 0 two) (fits_length two))

-- a column takes only bytes that may stand in one
abbrev Printable : Cell → Type 0
Printable c = (b : ℕ) → Takes c b → (32 ≤ b) × (b ≤ 126)

print_blank : Printable blank
print_blank b t = (omega (arith, takes_blank t), omega (arith, takes_blank t))

print_digit : Printable digit
print_digit b t = let h = takes_digit t in (omega arith, omega arith)

print_minus : Printable minus
print_minus b t = ⊎_elim (λ e. (omega arith, omega arith)) (λ e. (omega arith, omega arith)) (takes_minus_lem t)

print_point : Printable point
print_point b t = (omega (arith, takes_point t), omega (arith, takes_point t))

print_sign : Printable sign
print_sign b t = ⊎_elim (λ e. (omega arith, omega arith)) (λ e. (omega arith, omega arith)) (takes_sign t)

print_letter : {l : ℕ} → Letter l → Printable (lettered l)
print_letter x b t = (omega (arith, letter_high x, takes_letter x t), omega (arith, letter_low x, takes_letter x t))

allowed_on : (c : Cell) {b : ℕ} {l : List ℕ} → Printable c → Takes c b → Allowed l → Allowed (b ∷ l)
allowed_on c {b = b} p t a = let h = p b t in Allowed.more h.0 h.1 a

allowed_same : (n : ℕ) (c : Cell) {l : List ℕ} → Printable c → Fits (replicate n c) l → Allowed l
allowed_same zero c p Fits.none = Allowed.none
allowed_same (suc n) c p (Fits.more t f) = allowed_on c p t (allowed_same n c p f)

pub blanks_allowed : (n : ℕ) {l : List ℕ} → Fits (replicate n blank) l → Allowed l
blanks_allowed n f = allowed_same n blank print_blank f

pub blanks_fit : (n : ℕ) {l : List ℕ} → Fits (replicate n blank) l → Blanks l
blanks_fit zero Fits.none = none
blanks_fit (suc n) (Fits.more t f) = rw (takes_blank t) (one (blanks_fit n f))

-- no LF is among bytes that may stand in columns
pub line_len_allowed : {cs : List ℕ} (r : List ℕ) → Allowed cs → line_len (cs ++ r) ≡ length cs + line_len r
unfolding line_len
line_len_allowed r Allowed.none = omega arith
line_len_allowed r (Allowed.more {b} {bs} low high a) = rw (ne_eqb b 10 (λ (e : b ≡ 10). omega arith), line_len_allowed r a) (omega arith)

-- a field's columns hold only such bytes
pub field_allowed : (b m w : ℕ) {l : List ℕ} → Letter b → m ≤ 9 → Fits (field_cells b m w) l → Allowed l
unfolding field_cells
field_allowed b m w x low (Fits.more t0 (Fits.more t1 (Fits.more t2 (Fits.more t3 f)))) =
    let s = fits_split (replicate (w - 8) digit) (exponent_cells b m) f in
    allowed_on blank print_blank t0 (allowed_on minus print_minus t1 (allowed_on digit print_digit t2 (allowed_on point print_point t3
    (rw s.is (allowed_append (allowed_same (w - 8) digit print_digit s.fits_first) (ending s.fits_second))))))
  where
    ending : {y : List ℕ} → Fits (exponent_cells b m) y → Allowed y
    ending (Fits.more tl (Fits.more ts (Fits.more td fd))) =
        allowed_on (lettered b) (print_letter x) tl
        (allowed_on sign print_sign ts (allowed_on digit print_digit (takes_lower low td) (allowed_same 1 digit print_digit fd)))

-- its third column is no blank
pub field_third : (b m w : ℕ) {l : List ℕ} → Fits (field_cells b m w) l → Third l
unfolding field_cells
field_third b m w (Fits.more {b = b0} t0 (Fits.more {b = b1} t1 (Fits.more {b = b2} t2 f))) = third b0 b1 (λ (e : b2 ≡ 32). let h = takes_digit t2 in omega arith)
