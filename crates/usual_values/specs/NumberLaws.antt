-- A field in the usual spelling is read as the f64 whose bit pattern is worked out from its columns.
use Rattle.std.specs.Prelude.{◌≡◌, Bool, cond, List, ℕ, zero, suc, ◌+◌, ◌-◌, ◌*◌, ◌^◌, ◌≤◌, ◌<◌, ltb, eqb, Float, length, get_or, take, drop, Ok}
use Rattle.std.proofs.Math.Path.{refl, ap}
use Rattle.std.proofs.Common.{sym, ◌∙◌, ⊎_elim, length-take, length-drop, take_all, get_or-take, get_or-drop}
use Rattle.std.proofs.Math.Bool.{true, false}
use native.Mathlib.Omega.{arith}
use borrow.Author.Tests.{le-leb, lt-ltb, le-ltb}
use Rattle.std.specs.Float.{nan, inf, fin, Format, binary64}
use Rattle.std.specs.Float.Ieee.{prec, emax, low, odd, units, round, neg, is_nan, to_bits}
use Rattle.std.specs.Float.Ieee.Bits.{to_bits-lt}
use Rattle.std.specs.Float.Ieee.Fits.{round-fits, neg-fits}
use Rattle.laws.specs.ChoiceLaws.{false_not_true, below_or_not}
use Rattle.text.specs.Parts.{Digits, is_digit}
use Rattle.text.specs.PartsLaws.{is_digit_high}
use Rattle.real.specs.Spelling.{ExponentSpelling}
use Rattle.real.specs.Real.{at, scaled, real_end, real_of}
use Rattle.real.specs.EndLaws.{real_end_minus, real_end_less, real_end_rest}
use Rattle.real.specs.StepLaws.{digit_below, below_more}
use Rattle.real.specs.Plain.{between, Few}
use Rattle.real.proofs.PlainLaws.{digits_next, lettered_last, plain_front, columns_real}
use Rattle.exact.specs.Exact.{magnitude_of, with_sign, exact_of}
use Rattle.exact.specs.ExactLaws.{magnitude_of_times, magnitude_of_divided}
use Rattle.exact.specs.Bits.{bits_of}
use Rattle.reader.specs.Reader.{Read}
use Rattle.reader.specs.Reader.{read_of}
use Rattle.usual_values.specs.Usual.{UsualField}
use Rattle.usual_values.specs.Number.{AllDigits, Spelled, place_of, magnitude_at, is_unsigned, Magnitude}

-- The sign is put on by its bit alone.

sum_shift : (a b c : ℕ) → a + b + c ≡ a + (0 + b + c)
sum_shift a b c = omega arith

pub signed_bits : (x : Float) → is_unsigned x ≡ true → bits_of (neg x) ≡ 9223372036854775808 + bits_of x
unfolding is_unsigned bits_of neg is_nan to_bits
signed_bits nan h = false_not_true h
signed_bits (inf true) h = false_not_true h
signed_bits (inf false) h = refl
signed_bits (fin true m e) h = false_not_true h
signed_bits (fin false m e) h = sum_shift 9223372036854775808 _ _

-- the bit is free
bits_number : (x : Float) → is_unsigned x ≡ true → bits_of (neg x) ≡ to_bits binary64 (neg x)
unfolding is_unsigned bits_of neg is_nan
bits_number nan h = false_not_true h
bits_number (inf s) h = refl
bits_number (fin s m e) h = refl

pub bits_room : (x : Float) → Magnitude x → bits_of x < 9223372036854775808
bits_room x m =
    let below : to_bits binary64 (neg x) < 18446744073709551616 = to_bits-lt binary64 (neg x) (neg-fits binary64 x m.fitting) in
    omega (arith, signed_bits x m.unsigned, bits_number x m.unsigned)

-- What is rounded without a minus has none.

odd_unsigned : (d q k l : ℕ) → is_unsigned (odd d false q k l) ≡ true
unfolding odd is_unsigned
odd_unsigned d zero k l = refl
odd_unsigned d (suc q) k l = refl

units_unsigned : (f : Format) (q k : ℕ) → is_unsigned (units f false q k) ≡ true
unfolding units is_unsigned
units_unsigned f q k = go (ltb (q * 2 ^ k) (2 ^ (low f + suc (emax f)))) (odd (suc (prec f)) false q k (low f)) (odd_unsigned (suc (prec f)) q k (low f))
  where
    go : (t : Bool) (x : Float) → is_unsigned x ≡ true → is_unsigned (cond t x (inf false)) ≡ true
    go true x h = h
    go false x h = refl

round_unsigned : (f : Format) (n d : ℕ) → is_unsigned (round f false n d) ≡ true
unfolding round
round_unsigned f n d = units_unsigned f _ _

round_magnitude : (n d : ℕ) → Magnitude (round binary64 false n d)
round_magnitude n d = record { unsigned = round_unsigned binary64 n d; fitting = round-fits binary64 false n d }

-- The scale by its place.

module _ (c p : ℕ) where
  at_below : p < 22 → magnitude_at c p ≡ magnitude_of c true (22 - p)
  unfolding magnitude_at
  at_below h = rw (lt-ltb p 22 h) refl

  at_above : 22 ≤ p → magnitude_at c p ≡ magnitude_of c false (p - 22)
  unfolding magnitude_at
  at_above h = rw (le-ltb p 22 h) refl

  pub at_magnitude : c ≤ 9007199254740992 → p ≤ 44 → Magnitude (magnitude_at c p)
  at_magnitude h l =
      ⊎_elim
      (λ (b : p < 22). rw (at_below b, magnitude_of_divided c (22 - p) h (omega arith)) (round_magnitude c (10 ^ (22 - p))))
      (λ (b : 22 ≤ p). rw (at_above b, magnitude_of_times c (p - 22) h (omega arith)) (round_magnitude (c * 10 ^ (p - 22)) 1))
      (below_or_not p 22)

-- a number in the exact path is its magnitude with its sign
module _ (n : Bool) (c : ℕ) (small : c ≤ 9007199254740992) where
  read_scaled : (f x k : ℕ) (xn b : Bool) → k ≤ 22 → read_of (scaled (at 7 n c 0 f xn x) b k) ≡ Ok (with_sign n (magnitude_of c b k))
  unfolding read_of exact_of
  read_scaled f x k xn b h = rw (le-leb c 9007199254740992 small, le-leb k 22 h) refl

  abbrev Own : Bool → ℕ → ℕ → Type 0
  Own xn x f = read_of (real_end (at 7 n c 0 f xn x)) ≡ Ok (with_sign n (magnitude_at c (place_of xn x f)))

  abbrev value : Float → Read
  value m = Ok (with_sign n m)

  read_minus : (x f : ℕ) → 1 ≤ f → x + f ≤ 22 → Own true x f
  unfolding place_of
  read_minus x f l h =
      let s : 22 - (22 - f - x) ≡ x + f = omega arith in
      ap read_of (real_end_minus (at 7 n c 0 f true x) (omega arith) (omega arith) (omega arith) refl)
      ∙ ap (λ (b : Bool). read_of (scaled (at 7 n c 0 f true x) b (x + f))) (lt-ltb 0 (x + f) (omega arith))
      ∙ read_scaled f x (x + f) true true h
      ∙ ap value (sym (at_below c (22 - f - x) (omega arith) ∙ rw s refl))

  read_less : (x f : ℕ) → x < f → x + f ≤ 22 → Own false x f
  unfolding place_of
  read_less x f l h =
      let s : 22 - (22 - f + x) ≡ f - x = omega arith in
      ap read_of (real_end_less (at 7 n c 0 f false x) (omega arith) (omega arith) (omega arith) refl l)
      ∙ read_scaled f x (f - x) false true (omega arith)
      ∙ ap value (sym (at_below c (22 - f + x) (omega arith) ∙ rw s refl))

  read_rest : (x f : ℕ) → f ≤ x → x + f ≤ 22 → Own false x f
  unfolding place_of
  read_rest x f l h =
      let s : 22 - f + x - 22 ≡ x - f = omega arith in
      ap read_of (real_end_rest (at 7 n c 0 f false x) (omega arith) (omega arith) (omega arith) refl l)
      ∙ read_scaled f x (x - f) false false (omega arith)
      ∙ ap value (sym (at_above c (22 - f + x) (omega arith) ∙ rw s refl))

  read_placed : (xn : Bool) (x f : ℕ) → 1 ≤ f → x + f ≤ 22 → Own xn x f
  read_placed true x f l h = read_minus x f l h
  read_placed false x f l h = ⊎_elim (λ (b : x < f). read_less x f b h) (λ (b : f ≤ x). read_rest x f b h) (below_or_not x f)

-- digits spell a number
module _ (m : ℕ) (l : List ℕ) (first : m ≤ 9) (all : AllDigits l) where
  spelled_to : (i : ℕ) → i ≤ length l → (c : ℕ) × (Digits m (take i l) c × (c < 10 ^ (i + 1)))
  spelled_to zero h = (m, (Digits.none, omega arith))
  spelled_to (suc i) h =
      let r = spelled_to i (omega arith) in
      let t = all.digit i (omega arith) in
      let e : i + 1 ≡ suc i = omega arith in
      rw (← e) (r.0 * 10 + (get_or l i 0 - 48), (digits_next l i (omega arith) t r.1.0, digit_below (i + 1) r.0 _ (is_digit_high _ t) r.1.1))

  spelled : length l ≤ 17 → (c : ℕ) × Spelled m l c
  spelled few =
      let r = spelled_to (length l) (omega arith) in
      (r.0, record { few = record { first = first; few = few; digits = rw (take_all (length l) l (omega arith)) at r.1.0 }; small = r.1.1 })

zero_digit : is_digit 48 ≡ true
unfolding is_digit
zero_digit = refl

pub place_most : (xn : Bool) (x f : ℕ) → x + f ≤ 22 → place_of xn x f ≤ 44
unfolding place_of
place_most true x f h = omega arith
place_most false x f h = omega arith

-- the columns of a field in the usual spelling
module _ (l : List ℕ) (u : UsualField l) where
  abbrev w : ℕ
  w = length l

  between_length : (a e : ℕ) → e ≤ w → length (between a e l) ≡ e - a
  between_length a e h = simp (length-take, length-drop) (omega arith)

  between_at : (a e i : ℕ) → i < e - a → get_or (between a e l) i 0 ≡ get_or l (a + i) 0
  between_at a e i h = get_or-take (e - a) (drop a l) i 0 h ∙ get_or-drop a l i 0

  -- one digit and two digits
  one_digit : (m a e : ℕ) → e ≡ a + 1 → e ≤ w → is_digit (get_or l a 0) ≡ true → Digits m (between a e l) (m * 10 + (get_or l a 0 - 48))
  one_digit m a e q h t =
      let n : length (between a e l) ≡ 1 = between_length a e h ∙ omega arith in
      let z : a + 0 ≡ a = omega arith in
      let b : get_or (between a e l) 0 0 ≡ get_or l a 0 = between_at a e 0 (omega arith) ∙ rw z refl in
      rw (take_all 1 (between a e l) (omega arith), b) at (digits_next {m = m} (between a e l) 0 (omega arith) (rw b t) Digits.none)

  pub whole_digit : Few 0 (between 2 3 l) (get_or l 2 0 - 48)
  whole_digit =
      let wide = u.wide in
      let n : length (between 2 3 l) ≡ 1 = between_length 2 3 (omega arith) in
      let z : 0 * 10 + (get_or l 2 0 - 48) ≡ get_or l 2 0 - 48 = omega arith in
      record { first = omega arith; few = omega arith; digits = rw z at (one_digit 0 2 3 refl (omega arith) u.whole) }

  pub part_digits : AllDigits (between 4 (w - 4) l)
  part_digits =
      record {
        digit = λ i h.
            let k : i < w - 4 - 4 = rw (between_length 4 (w - 4) (omega arith)) at h in
            rw (between_at 4 (w - 4) i k) (u.part (4 + i) (omega arith) (omega arith));
      }

  pub part_length : length (between 4 (w - 4) l) ≡ w - 8
  part_length = between_length 4 (w - 4) (omega arith) ∙ omega arith

  two_digits : Digits 0 (between (w - 2) w l) (get_or l (w - 1) 0 - 48)
  two_digits =
      let wide = u.wide in
      let n : length (between (w - 2) w l) ≡ 2 = between_length (w - 2) w (omega arith) ∙ omega arith in
      let y : w - 2 + 0 ≡ w - 2 = omega arith in
      let z : w - 2 + 1 ≡ w - 1 = omega arith in
      let a : get_or (between (w - 2) w l) 0 0 ≡ 48 = between_at (w - 2) w 0 (omega arith) ∙ rw y u.tens in
      let b : get_or (between (w - 2) w l) 1 0 ≡ get_or l (w - 1) 0 = between_at (w - 2) w 1 (omega arith) ∙ rw z refl in
      let first = digits_next (between (w - 2) w l) 0 (omega arith) (rw a zero_digit) (Digits.none {m = 0}) in
      let both = digits_next (between (w - 2) w l) 1 (omega arith) (rw b u.last) first in
      let v : 0 * 10 + (get_or l (w - 1) 0 - 48) ≡ get_or l (w - 1) 0 - 48 = omega arith in
      rw v at (rw (take_all 2 (between (w - 2) w l) (omega arith), a, b) at both)

  exponent : ExponentSpelling (eqb (get_or l (w - 3) 0) 45) (get_or l (w - 1) 0 - 48) (drop (w - 4) l)
  exponent =
      let wide = u.wide in
      let n : length (between (w - 2) w l) ≡ 2 = between_length (w - 2) w (omega arith) ∙ omega arith in
      lettered_last l u.wide u.lettered (record { first = omega arith; few = omega arith; digits = two_digits })

  pub last_small : get_or l (w - 1) 0 - 48 ≤ 9
  last_small = omega (arith, is_digit_high (get_or l (w - 1) 0) u.last)

  pub coefficient_small : (m c : ℕ) → Spelled m (between 4 (w - 4) l) c → c ≤ 9007199254740992
  coefficient_small m c s =
      let narrow = u.narrow in
      let n : length (between 4 (w - 4) l) ≡ w - 8 = part_length in
      omega (arith, below_more c _ 14 (omega arith) s.small)

  -- what is read
  pub usual_read : (c : ℕ) → Spelled (get_or l 2 0 - 48) (between 4 (w - 4) l) c
      → read_of (real_of l) ≡ Ok (with_sign (eqb (get_or l 1 0) 45) (magnitude_at c (place_of (eqb (get_or l (w - 3) 0) 45) (get_or l (w - 1) 0 - 48) (w - 8))))
  usual_read c s =
      let wide = u.wide in
      let narrow = u.narrow in
      let small = last_small in
      let one : length (between 2 3 l) ≡ 1 = between_length 2 3 (omega arith) in
      let rest : length (between 4 (w - 4) l) ≡ w - 8 = part_length in
      let real = columns_real 0 l (plain_front l u.wide u.plain) (omega arith) (omega arith) whole_digit s.few exponent (omega arith) in
      ap read_of (sym (rw part_length at real))
      ∙ read_placed (eqb (get_or l 1 0) 45) c (coefficient_small _ c s) (eqb (get_or l (w - 3) 0) 45) (get_or l (w - 1) 0 - 48) (w - 8) (omega arith) (omega arith)

  -- and it is a value
  pub usual_value : (v : Float) × (read_of (real_of l) ≡ Ok v)
  usual_value =
      let narrow = u.narrow in
      let n : length (between 4 (w - 4) l) ≡ w - 8 = part_length in
      let small : get_or l 2 0 - 48 ≤ 9 = omega (arith, is_digit_high (get_or l 2 0) u.whole) in
      let s = spelled (get_or l 2 0 - 48) (between 4 (w - 4) l) small part_digits (omega arith) in
      (_, usual_read s.0 s.1)
