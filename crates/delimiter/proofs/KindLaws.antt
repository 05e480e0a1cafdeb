-- The tests for delimiters and number lines agree with what these are, in both directions. A delimiter is not blank.
use Rattle.std.specs.Prelude.{◌≡◌, Bool, true, false, ◌&&◌, List, [], ◌∷◌, ◌++◌, ℕ, zero, suc, ◌+◌, ◌*◌, ◌^◌, ◌≤◌, ◌<◌, eqb, length, get_or, take, drop, replicate, Ok, Err}
use Rattle.std.proofs.Math.Path.{refl}
use Rattle.std.proofs.Common.{sym, ◌∙◌, append_assoc, mul_assoc, mul-le-mul_right, lt_of_lt_of_le, arith, eqb-true, le-leb, ne_eqb, length-append, take-append-drop, take_at, drop_at, length-take-le}
use Rattle.std.proofs.Math.Bool.{and_assoc}
use Rattle.std.proofs.Math.Nat.{pow-succ', pow-le-pow_right}
use Rattle.laws.specs.Choice.{pick}
use Rattle.laws.specs.ChoiceLaws.{and_left, and_right, false_not_true}
use Rattle.text.specs.Blank.{Blanks, all_blank}
use Rattle.text.specs.BlankLaws.{all_blank_complete, all_blank_sound}
use Rattle.text.specs.Parts.{Digits, none, more}
use Rattle.text.specs.Text.{Unpadded, TextIn, text_in_lem, trimmed}
use Rattle.text.proofs.TextLaws.{trimmed_complete, trimmed_sound}
use Rattle.integer.specs.Spelling.{IntegerSpelling, spelled}
use Rattle.integer.specs.Integer.{Held, valued, integer_of}
use Rattle.integer.proofs.IntegerLaws.{integer_of_complete, integer_of_value}
use Rattle.delimiter.specs.Kind.{Delimiter, delimiter, NumberLine, number_line, then_blank, is_delimiter, positive, dataset_number}

-- Delimiters.

-- the blanks that are looked for first are blank columns
then_blank_blanks : (n p : ℕ) (ps l : List ℕ)
    → then_blank (replicate n 32 ++ (p ∷ ps)) l ≡ all_blank (take n l) && then_blank (p ∷ ps) (drop n l)
unfolding then_blank all_blank
then_blank_blanks zero p ps l = refl
then_blank_blanks (suc n) p ps [] = refl
then_blank_blanks (suc n) p ps (b ∷ l) =
    rw (then_blank_blanks n p ps l) (sym (and_assoc (eqb b 32) (all_blank (take n l)) (then_blank (p ∷ ps) (drop n l))))

-- a byte that is looked for stands in its column; 0 is read where there is no column
then_blank_byte : (i p : ℕ) (ps l : List ℕ) → 0 < p
    → then_blank (p ∷ ps) (drop i l) ≡ eqb (get_or l i 0) p && then_blank ps (drop (suc i) l)
unfolding then_blank
then_blank_byte zero p ps [] h = rw (ne_eqb 0 p (λ e. omega arith)) refl
then_blank_byte (suc i) p ps [] h = rw (ne_eqb 0 p (λ e. omega arith)) refl
then_blank_byte zero p ps (b ∷ l) h = refl
then_blank_byte (suc i) p ps (b ∷ l) h = then_blank_byte i p ps l h

-- the test by the columns: four blanks, a minus, a 1, blanks
pub is_delimiter_columns : (l : List ℕ)
    → is_delimiter l ≡ all_blank (take 4 l) && (eqb (get_or l 4 0) 45 && (eqb (get_or l 5 0) 49 && all_blank (drop 6 l)))
unfolding is_delimiter then_blank
is_delimiter_columns l =
    then_blank_blanks 4 45 (49 ∷ []) l
    ∙ rw (then_blank_byte 4 45 (49 ∷ []) l (omega arith), then_blank_byte 5 49 [] l (omega arith)) refl

-- a delimiter passes the test
pub is_delimiter_complete : {l : List ℕ} → Delimiter l → is_delimiter l ≡ true
unfolding is_delimiter then_blank
is_delimiter_complete (delimiter b) = all_blank_complete b

-- what passes is the bytes that are looked for, and then blanks
then_blank_sound : (ps l : List ℕ) → then_blank ps l ≡ true → (bl : List ℕ) × (l ≡ ps ++ bl) × Blanks bl
unfolding then_blank
then_blank_sound [] l h = (l, refl, all_blank_sound l h)
then_blank_sound (p ∷ ps) [] h = false_not_true h
then_blank_sound (p ∷ ps) (b ∷ l) h =
    front (eqb-true b p (and_left (eqb b p) (then_blank ps l) h)) (then_blank_sound ps l (and_right (eqb b p) (then_blank ps l) h))
  where
    front : b ≡ p → (bl : List ℕ) × (l ≡ ps ++ bl) × Blanks bl → (bl : List ℕ) × (b ∷ l ≡ p ∷ (ps ++ bl)) × Blanks bl
    front e (bl, q, r) = (bl, cc, r)

-- what passes the test is a delimiter
pub is_delimiter_sound : (l : List ℕ) → is_delimiter l ≡ true → Delimiter l
unfolding is_delimiter
is_delimiter_sound l h = of (then_blank_sound (32 ∷ 32 ∷ 32 ∷ 32 ∷ 45 ∷ 49 ∷ []) l h)
  where
    of : (bl : List ℕ) × (l ≡ 32 ∷ 32 ∷ 32 ∷ 32 ∷ 45 ∷ 49 ∷ bl) × Blanks bl → Delimiter l
    of (bl, e, b) = rw e (delimiter b)

-- How large a number is by the columns that spell it.

-- m and n digits after it spell a number below (m + 1) * 10^n
digits_below : {m v : ℕ} {ds : List ℕ} → Digits m ds v → v < (m + 1) * 10 ^ length ds
digits_below none = omega arith
digits_below (more {m} {b} {v} {ds} lo hi d) =
    rw (pow-succ' 10 (length ds), ← mul_assoc) (lt_of_lt_of_le (digits_below d) (mul-le-mul_right (10 ^ length ds) (omega arith)))

-- an integer in n columns is below 10^n
integer_below : {n : Bool} {v : ℕ} {l : List ℕ} → IntegerSpelling n v l → v < 10 ^ length l
integer_below (spelled bl sg ds b s d h) =
    let n : length ds ≤ length (bl ++ (sg ++ ds)) = simp length-append (omega arith) in
    omega (arith, digits_below d, pow-le-pow_right {n = 10} (omega arith) n)

-- Number lines.

-- a number line has its number
pub dataset_number_complete : {v : ℕ} {l : List ℕ} → NumberLine v l → dataset_number l ≡ v
unfolding dataset_number
dataset_number_complete (number_line {v} field bl n s lo hi b) =
    rw (take_at field bl 6 n, drop_at field bl 6 n, all_blank_complete b, integer_of_complete s, le-leb v 2147483647 (omega arith)) refl

-- a number that is not 0 is that of an integer without a minus
pub positive_value : (i : Held) (v : ℕ) → 1 ≤ v → positive i ≡ v → i ≡ valued false v
positive_value (Ok i) v p e = by i.minus i.size e
  where
    by : (n : Bool) (w : ℕ) → pick n 0 w ≡ v → valued n w ≡ valued false v
    by false w e = rw e refl
    by true w e = absurd (omega arith)
positive_value (Err f) v p e = absurd (omega arith)

-- a line with a number that is not 0 is a number line
pub dataset_number_sound : (l : List ℕ) (v : ℕ) → 6 ≤ length l → dataset_number l ≡ v → 1 ≤ v → NumberLine v l
unfolding dataset_number
dataset_number_sound l v n e p = by (all_blank (drop 6 l)) refl e
  where
    by : (t : Bool) → all_blank (drop 6 l) ≡ t → pick t (positive (integer_of (take 6 l))) 0 ≡ v → NumberLine v l
    by true b h =
        let i : integer_of (take 6 l) ≡ valued false v = positive_value (integer_of (take 6 l)) v p h in
        let s : IntegerSpelling false v (take 6 l) = (integer_of_value (take 6 l) false v i).0 in
        let k : length (take 6 l) ≡ 6 = length-take-le 6 l n in
        let below : v < 1000000 = rw k at (integer_below s) in
        rw take-append-drop at (number_line (take 6 l) (drop 6 l) k s p (omega arith) (all_blank_sound (drop 6 l) b))
    by false b h = absurd (omega arith)

-- The number by the line without the blanks that close it.

-- what spells an integer ends in a digit
unpadded_front : (l : List ℕ) {b : ℕ} {bs : List ℕ} → Unpadded (b ∷ bs) → Unpadded (l ++ (b ∷ bs))
unpadded_front [] u = u
unpadded_front (a ∷ []) u = Unpadded.more u
unpadded_front (a ∷ c ∷ l) u = Unpadded.more (unpadded_front (c ∷ l) u)

digits_unpadded : (l : List ℕ) {m v : ℕ} {ds : List ℕ} → Digits m ds v → 0 < length ds → Unpadded (l ++ ds)
digits_unpadded l none h = absurd (omega arith)
digits_unpadded l (more {m} {b} lo hi none) h = unpadded_front l (Unpadded.last (λ e. omega arith))
digits_unpadded l (more {m} {b} lo hi (more p q d)) h =
    unpadded_front l (Unpadded.more (digits_unpadded [] (more p q d) (omega arith)))

integer_unpadded : {n : Bool} {v : ℕ} {l : List ℕ} → IntegerSpelling n v l → Unpadded l
integer_unpadded (spelled bl sg ds b s d h) = rw (← append_assoc) (digits_unpadded (bl ++ sg) d h)

-- six bytes are left of a number line
number_six : {v : ℕ} {l : List ℕ} → NumberLine v l → length (trimmed l) ≡ 6
number_six (number_line field bl n s lo hi b) = rw (trimmed_complete (text_in_lem bl (integer_unpadded s) b)) n

blanks_after : {t l : List ℕ} → TextIn t l → length t ≡ 6 → Blanks (drop 6 l)
blanks_after (text_in_lem {t} bl u b) n = rw (drop_at t bl 6 n) b

module _ (l : List ℕ) (k : ℕ) (e : k ≡ length (trimmed l)) where
  pub dataset_number_six : k ≡ 6 → positive (integer_of (take k l)) ≡ dataset_number l
  unfolding dataset_number
  dataset_number_six h = rw (h, all_blank_complete (blanks_after (trimmed_sound l) (sym e ∙ h))) refl

  pub dataset_number_other : 6 ≤ length l → (k ≡ 6 → ⊥) → 0 ≡ dataset_number l
  dataset_number_other m h = by (dataset_number l) refl
    where
      by : (v : ℕ) → dataset_number l ≡ v → 0 ≡ v
      by zero q = refl
      by (suc v) q = absurd (h (e ∙ number_six (dataset_number_sound l (suc v) m q (omega arith))))

-- A delimiter is not blank.

pub delimiter_not_blank : (l : List ℕ) → Delimiter l → all_blank l ≡ false
unfolding all_blank
delimiter_not_blank l (delimiter b) = refl
