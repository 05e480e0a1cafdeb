-- The columns of a number spelled plainly: blanks for 0, otherwise its last digit at their end; allowed bytes all of them.
use Rattle.std.specs.Prelude.{◌≡◌, refl, [], ◌∷◌, ℕ, zero, suc, ◌+◌, ◌/◌, ◌%◌, ◌<◌}
use Rattle.std.proofs.Common.{arith, ne_eqb}
use Rattle.text.specs.Blank.{Blanks, none, one}
use Rattle.text.specs.BlankLaws.{blanks_append}
use Rattle.line.specs.Line.{Allowed, Allowed.none as no_byte, Allowed.more as byte}
use Rattle.line.specs.LineLaws.{allowed_append}
use Rattle.rewriter.specs.Rewriter.{digit_or_blank, plain_in, plain_number}

-- 0 is blanks, any other number ends in its last digit
pub plain_blank : (w : ℕ) → Blanks (plain_in w 0)
unfolding plain_in digit_or_blank
plain_blank zero = none
plain_blank (suc w) = blanks_append (plain_blank w) (one none)

pub digit_of : (v : ℕ) → 0 < v → digit_or_blank v ≡ 48 + v % 10
unfolding digit_or_blank
digit_of v p = rw (ne_eqb v 0 (λ e. omega arith)) refl

-- its bytes are allowed
digit_allowed : (v : ℕ) → Allowed (digit_or_blank v ∷ [])
unfolding digit_or_blank
digit_allowed zero = byte {b = 32} (omega arith) (omega arith) no_byte
digit_allowed (suc v) = rw (digit_of (suc v) (omega arith)) (byte {b = 48 + suc v % 10} (omega arith) (omega arith) no_byte)

plain_in_allowed : (w v : ℕ) → Allowed (plain_in w v)
unfolding plain_in
plain_in_allowed zero v = no_byte
plain_in_allowed (suc w) v = allowed_append (plain_in_allowed w (v / 10)) (digit_allowed v)

pub plain_number_allowed : (v : ℕ) → Allowed (plain_number v)
unfolding plain_number
plain_number_allowed v = plain_in_allowed 6 v
