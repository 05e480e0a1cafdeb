-- Coefficient and power of ten are exact, so that the one operation rounds the number itself, and once. No answer is a NaN.
use Rattle.std.specs.Prelude.{◌≡◌, refl, Bool, true, false, cond, ℕ, zero, suc, ◌+◌, ◌*◌, ◌^◌, ◌≤◌, ◌<◌, leb, ltb, pos, Float, Some, None}
use Rattle.std.proofs.Common.{sym, ap, ◌∙◌, ⊎_elim, eq-or-lt_of_le, lt_of_lt_of_le, zero-lt-suc, mul-one, zero-mul, mul-pos, mul_comm, mul_assoc, mul_left_comm, arith, ltb-true, leb-true, ne_eqb, pow-add, pow_mono, shl_lt}
use Rattle.std.proofs.Math.Nat.{one-le-pow}
use Rattle.std.specs.Float.{nan, inf, fin, Format, binary64}
use Rattle.std.specs.Float.Ieee.{prec, emax, low, up, down, odd, units, round, of_int, of_bits, neg, mul, div, is_nan}
use Rattle.std.specs.Float.Ieee.Exact.{round_exact}
use Rattle.std.specs.Float.Ieee.Fits.{down_pos}
use Rattle.std.specs.Float.Ieee.Scale.{round_same}
use Rattle.laws.specs.Choice.{pick}
use Rattle.laws.specs.RangesLaws.{in_range}
use Rattle.laws.specs.TableLaws.{agree_below}
use Rattle.exact.specs.Exact.{ten_of, magnitude_of, with_sign, exact_of, Is}

-- a number below 2^53 times a power of two is an f64
of_int_exact : (n q j : ℕ) → q < 2 ^ 53 → j ≤ 53 → n ≡ q * 2 ^ j → Is (of_int binary64 (pos n)) n
unfolding of_int
of_int_exact n q j h g e =
    round_exact binary64 false n 1 q (j + 1074) (omega arith) h
    (lt_of_lt_of_le (shl_lt 53 (j + 1074) h) (pow_mono {j = 2098} (omega arith)))
    (rw (e, pow-add 2 j 1074) (simp (mul-one, mul_assoc)))

pub coefficient_exact : (c : ℕ) → c ≤ 9007199254740992 → Is (of_int binary64 (pos c)) c
coefficient_exact c h =
    ⊎_elim (λ e. of_int_exact c 1 53 (omega arith) (omega arith) e) (λ l. of_int_exact c c 0 l (omega arith) (sym (mul-one c)))
    (eq-or-lt_of_le h)

pub ten_of_exact : (k : ℕ) → k ≤ 22 → Is (ten_of k) (10 ^ k)
unfolding ten_of
ten_of_exact k h =
    let small : 5 ^ k < 2 ^ 53 = ltb-true _ _ (in_range (λ i. ltb (5 ^ i) (2 ^ 53)) true 0 23 k refl (omega arith) (omega arith)) in
    of_int_exact (10 ^ k) (5 ^ k) k small (omega arith) (agree_below (λ i. 10 ^ i) (λ i. 5 ^ i * 2 ^ i) 23 k refl (omega arith))

-- One product or quotient of exact numbers is one rounding.

mul_rounded : (x y : Float) (a b : ℕ) → Is x a → Is y b → mul binary64 x y ≡ round binary64 false (a * b) 1
unfolding mul
mul_rounded (fin s m e) (fin t n d) a b (s0, p) (t0, q) =
    let p' : m * up e ≡ a * down e = sym (mul-one _) ∙ p in
    let q' : n * up d ≡ b * down d = sym (mul-one _) ∙ q in
    rw (s0, t0)
    (round_same binary64 false _ _ (a * b) 1 (mul-pos (down_pos e) (down_pos d)) (omega arith)
    (rw (p', q') (simp (mul-one, mul_assoc, mul_left_comm))))
mul_rounded nan y a b x3 _ = elim x3 [ ]
mul_rounded (inf _) y a b x5 _ = elim x5 [ ]
mul_rounded (fin s m e) nan a b _ x8 = elim x8 [ ]
mul_rounded (fin s m e) (inf _) a b _ x10 = elim x10 [ ]

div_rounded : (x y : Float) (a b : ℕ) → 0 < b → Is x a → Is y b → div binary64 x y ≡ round binary64 false a b
unfolding div
div_rounded (fin s m e) (fin t n d) a b h (s0, p) (t0, q) =
    let p' : m * up e ≡ a * down e = sym (mul-one _) ∙ p in
    let q' : n * up d ≡ b * down d = sym (mul-one _) ∙ q in
    let g : 0 < n * up d = rw q' (mul-pos h (down_pos d)) in
    rw (s0, t0, ne_eqb n 0 (λ z. let w : 0 < 0 * up d = rw z at g in omega (arith, zero-mul (up d))))
    (round_same binary64 false _ _ a b (mul-pos g (down_pos e)) h
    (rw (p', q') (simp (mul_assoc, mul_comm, mul_left_comm))))
div_rounded nan y a b h x4 _ = elim x4 [ ]
div_rounded (inf _) y a b h x6 _ = elim x6 [ ]
div_rounded (fin s m e) nan a b h _ x10 = elim x10 [ ]
div_rounded (fin s m e) (inf _) a b h _ x12 = elim x12 [ ]

-- a power of ten times ten, by its bits, is the next one itself: up to 10^22 nothing is rounded away
pub ten_of_next : {x : Float} (k : ℕ) → k < 22 → x ≡ ten_of k → mul binary64 x (of_bits binary64 0x4024000000000000) ≡ ten_of (k + 1)
unfolding ten_of of_int of_bits
ten_of_next k h e =
    rw e
    (mul_rounded _ _ (10 ^ k) (10 ^ 1) (ten_of_exact k (omega arith)) (ten_of_exact 1 (omega arith))
    ∙ ap (λ (n : ℕ). round binary64 false n 1) (sym (pow-add 10 k 1)))

-- the magnitude is c × 10^k, rounded
pub magnitude_of_times : (c k : ℕ) → c ≤ 9007199254740992 → k ≤ 22 → magnitude_of c false k ≡ round binary64 false (c * 10 ^ k) 1
unfolding magnitude_of
magnitude_of_times c k h g = mul_rounded _ _ c (10 ^ k) (coefficient_exact c h) (ten_of_exact k g)

-- the magnitude is c / 10^k, rounded
pub magnitude_of_divided : (c k : ℕ) → c ≤ 9007199254740992 → k ≤ 22 → magnitude_of c true k ≡ round binary64 false c (10 ^ k)
unfolding magnitude_of
magnitude_of_divided c k h g = div_rounded _ _ c (10 ^ k) (one-le-pow k 10 (zero-lt-suc 9)) (coefficient_exact c h) (ten_of_exact k g)

-- a scale of size 0 is the same below zero and not
pub magnitude_of_zero : (c : ℕ) → c ≤ 9007199254740992 → magnitude_of c true 0 ≡ magnitude_of c false 0
magnitude_of_zero c h = magnitude_of_divided c 0 h (omega arith) ∙ sym (magnitude_of_times c 0 h (omega arith) ∙ rw mul-one refl)

-- No answer is a NaN: what is rounded is a number or an infinity.

odd_number : (d : ℕ) (s : Bool) (q k l : ℕ) → is_nan (odd d s q k l) ≡ false
unfolding odd is_nan
odd_number d s zero k l = refl
odd_number d s (suc q) k l = refl

units_number : (f : Format) (s : Bool) (q k : ℕ) → is_nan (units f s q k) ≡ false
unfolding units is_nan
units_number f s q k = go (ltb (q * 2 ^ k) (2 ^ (low f + suc (emax f)))) (odd (suc (prec f)) s q k (low f)) (odd_number (suc (prec f)) s q k (low f))
  where
    go : (t : Bool) (x : Float) → is_nan x ≡ false → is_nan (cond t x (inf s)) ≡ false
    go true x h = h
    go false x h = refl

round_number : (f : Format) (s : Bool) (n d : ℕ) → is_nan (round f s n d) ≡ false
unfolding round
round_number f s n d = units_number f s _ _

signed_number : (n : Bool) (x : Float) → is_nan x ≡ false → is_nan (with_sign n x) ≡ false
unfolding neg is_nan
signed_number false x h = h
signed_number true nan h = h
signed_number true (inf s) h = refl
signed_number true (fin s m e) h = refl

magnitude_of_number : (c : ℕ) (b : Bool) (k : ℕ) → c ≤ 9007199254740992 → k ≤ 22 → is_nan (magnitude_of c b k) ≡ false
magnitude_of_number c true k h g = rw (magnitude_of_divided c k h g) (round_number binary64 false c (10 ^ k))
magnitude_of_number c false k h g = rw (magnitude_of_times c k h g) (round_number binary64 false (c * 10 ^ k) 1)

pub exact_of_number : (n : Bool) (c : ℕ) (b : Bool) (k : ℕ) (x : Float) → exact_of n c b k ≡ Some x → is_nan x ≡ false
unfolding exact_of
exact_of_number n c b k x e = go (leb c 9007199254740992) (leb k 22) refl refl e
  where
    go : (s t : Bool) → leb c 9007199254740992 ≡ s → leb k 22 ≡ t → pick s (pick t (Some (with_sign n (magnitude_of c b k))) None) None ≡ Some x → is_nan x ≡ false
    go true true p q h =
        let z : with_sign n (magnitude_of c b k) ≡ x = cc in
        rw (← z) (signed_number n (magnitude_of c b k) (magnitude_of_number c b k (leb-true _ _ p) (leb-true _ _ q)))
    go true false p q h = let z : ◌≡◌ {A = ℕ} 0 1 = cc in absurd (omega arith)
    go false t p q h = let z : ◌≡◌ {A = ℕ} 0 1 = cc in absurd (omega arith)
