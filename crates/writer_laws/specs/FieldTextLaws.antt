-- The bytes of a number in its field: allowed, and the last one is no blank.
use Rattle.std.specs.Prelude.{◌≡◌, Bool, true, false, List, [], ◌∷◌, ◌++◌, ℕ, zero, suc, ◌+◌, ◌-◌, ◌/◌, ◌%◌, ◌^◌, ◌≤◌, ◌<◌, ℤ, pos, negsuc, nat_abs, replicate}
use Rattle.std.proofs.Common.{mod-lt, arith, le-ltb}
use Rattle.std.proofs.Math.ListN.{length}
use Rattle.text.specs.Text.{last, more}
use Rattle.line.specs.Line.{Allowed, Allowed.none as no_byte, Allowed.more as byte}
use Rattle.real.specs.Real.{below_zero}
use Rattle.decimal.specs.Decimal.{digits_of, shown, sign_byte, minus_text, coefficient_text, exponent_text, exponent_of, number_text, field_text}
use Rattle.decimal.specs.PutLaws.{exponent_cases}
use Rattle.line.specs.LineLaws.{allowed_append}
use Rattle.writer_laws.specs.FieldText.{Ends}

-- what comes before it does not matter
byte_before : (x : ℕ) (b : List ℕ) → Ends b → Ends (x ∷ b)
byte_before x [] e = absurd (omega (arith, e.some))
byte_before x (y ∷ ys) e = record { unpadded = more e.unpadded; some = omega arith }

pub ends_before_lem : (a : List ℕ) {b : List ℕ} → Ends b → Ends (a ++ b)
ends_before_lem [] e = e
ends_before_lem (x ∷ a) {b} e = byte_before x (a ++ b) (ends_before_lem a e)

byte_allowed : (b : ℕ) {bs : List ℕ} → 32 ≤ b → b ≤ 126 → Allowed bs → Allowed (b ∷ bs)
byte_allowed b l u a = byte l u a

digit_allowed : (v : ℕ) {bs : List ℕ} → Allowed bs → Allowed ((48 + v % 10) ∷ bs)
digit_allowed v a = let h : v % 10 < 10 = mod-lt v (omega arith) in byte_allowed (48 + v % 10) (omega arith) (omega arith) a

digits_allowed : (w v : ℕ) → Allowed (digits_of w v)
unfolding digits_of
digits_allowed zero v = no_byte
digits_allowed (suc w) v = digit_allowed (v / 10 ^ w) (digits_allowed w v)

blanks_allowed : (k : ℕ) → Allowed (replicate k 32)
blanks_allowed zero = no_byte
blanks_allowed (suc k) = byte_allowed 32 (omega arith) (omega arith) (blanks_allowed k)

minus_allowed : (x : ℤ) → Allowed (minus_text x)
unfolding minus_text
minus_allowed (pos n) = no_byte
minus_allowed (negsuc n) = byte_allowed 45 (omega arith) (omega arith) no_byte

sign_allowed : (b : Bool) {bs : List ℕ} → Allowed bs → Allowed (sign_byte b ∷ bs)
sign_allowed true a = byte_allowed 45 (omega arith) (omega arith) a
sign_allowed false a = byte_allowed 43 (omega arith) (omega arith) a

exponent_allowed : (x : ℤ) → Allowed (exponent_text x)
exponent_allowed x =
    exponent_cases Allowed x (λ h. byte_allowed 69 (omega arith) (omega arith) (sign_allowed (below_zero x) (digits_allowed 2 (nat_abs x))))
    (λ h. sign_allowed (below_zero x) (digits_allowed 3 (nat_abs x)))

number_allowed : (d : ℕ) (x s : ℤ) → Allowed (number_text d x s)
unfolding number_text coefficient_text
number_allowed d x s =
    allowed_append (minus_allowed x)
    (allowed_append (digit_allowed (shown d (nat_abs x) / 10 ^ d) (byte_allowed 46 (omega arith) (omega arith) (digits_allowed d (shown d (nat_abs x))))) (exponent_allowed (exponent_of (nat_abs x) s)))

digit_last : (v : ℕ) → Ends ((48 + v % 10) ∷ [])
digit_last v = record { unpadded = last (above (v % 10)); some = omega arith }
  where
    above : (k : ℕ) → 48 + k ≡ 32 → ⊥
    above k e = omega arith

digits_end : (w v : ℕ) → Ends (digits_of (suc w) v)
unfolding digits_of
digits_end zero v = digit_last (v / 10 ^ 0)
digits_end (suc w) v = byte_before (48 + v / 10 ^ suc w % 10) _ (digits_end w v)

exponent_ends : (x : ℤ) → Ends (exponent_text x)
exponent_ends x =
    exponent_cases Ends x (λ h. byte_before 69 _ (byte_before (sign_byte (below_zero x)) _ (digits_end 1 (nat_abs x))))
    (λ h. byte_before (sign_byte (below_zero x)) _ (digits_end 2 (nat_abs x)))

module _ (w d : ℕ) (x s : ℤ) (h : d + 7 ≤ w) where
  pub field_allowed : Allowed (field_text w d x s)
  unfolding field_text
  field_allowed = rw (le-ltb w (d + 7) h) (allowed_append (blanks_allowed (w - length (number_text d x s))) (number_allowed d x s))

  pub field_ends : Ends (field_text w d x s)
  unfolding field_text number_text
  field_ends =
      rw (le-ltb w (d + 7) h)
      (ends_before_lem (replicate (w - length (number_text d x s)) 32) (ends_before_lem (minus_text x) (ends_before_lem (coefficient_text d (shown d (nat_abs x))) (exponent_ends (exponent_of (nat_abs x) s)))))
