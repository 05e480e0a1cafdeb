-- The columns of a field in the usual spelling whose number is read by one product or quotient (01, "Lines and sets": "A real field is blanks, an
-- optional sign, digits with one point .., a letter E, e, D or d, a sign, two or three digits"): a blank, a blank or a minus, a digit, the point, digits,
-- the letter, a sign, a 0 and a digit.
use Rattle.std.specs.Prelude.{◌≡◌, true, List, ℕ, ◌-◌, ◌≤◌, ◌<◌, length, get_or}
use Rattle.text.specs.Parts.{is_digit}
use Rattle.real.specs.Plain.{is_plain, is_lettered}

-- of 9 to 21 columns
pub record UsualField (l : List ℕ) : Type 0 where
  pub wide : 9 ≤ length l
  pub narrow : length l ≤ 21
  pub plain : is_plain (get_or l 0 0) (get_or l 1 0) (get_or l 3 0) ≡ true
  pub whole : is_digit (get_or l 2 0) ≡ true
  pub part : (i : ℕ) → 4 ≤ i → i < length l - 4 → is_digit (get_or l i 0) ≡ true
  pub lettered : is_lettered (get_or l (length l - 4) 0) (get_or l (length l - 3) 0) ≡ true
  pub tens : get_or l (length l - 2) 0 ≡ 48
  pub last : is_digit (get_or l (length l - 1) 0) ≡ true
