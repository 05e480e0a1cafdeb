-- FORMAT texts of which the reading is computed: the edges of request C-15.
use Rattle.std.specs.Prelude.{◌≡◌, refl, List, ◌++◌, map, ℕ, length, replicate}
use mathlib.Core.List as L
use Prim.Native.String.{String, [], ◌∷◌}
use Prim.Native.Char.{code}
use Rattle.format.specs.Format.{Field, skip, text, integer, real, field, repeated}
use Rattle.format.specs.Reading.{Reading, malformed, too_large, fields, reading_of}
use Rattle.format.specs.Computed.{computed_reading}

-- the bytes of a text
abbrev pub bytes_of : String → List ℕ
bytes_of [] = L.[]
bytes_of (c ∷ s) = L.◌∷◌ (code c) (bytes_of s)

-- texts, one after the other
infixr 5 ◌◂◌
abbrev ◌◂◌ : String → List (List ℕ) → List (List ℕ)
s ◂ ls = L.◌∷◌ (bytes_of s) ls

-- what each is read as, all refused alike
abbrev AllRefused : Reading → List (List ℕ) → Type 0
AllRefused r ls = map reading_of ls ≡ replicate (length ls) r

infixr 5 ◌▸◌
abbrev ◌▸◌ : {A : Type 0} → A → List A → List A
a ▸ rest = L.◌∷◌ a rest

abbrev none : {A : Type 0} → List A
none = L.[]

abbrev I : ℕ → Field
I w = field integer w

abbrev A : ℕ → Field
A w = field text w

abbrev E : ℕ → Field
E w = field real w

abbrev X : Field
X = field skip 1

-- 26: empty lists, a comma, a bracket or a number that is missing or too many, letters and bytes that no FORMAT has, leading zeros, widths and
-- decimals out of bounds, 1P anywhere but before E and D
pub wrong_texts : AllRefused malformed (
    "" ◂ "   " ◂ "()" ◂ "(())" ◂ "2()" ◂ "I5," ◂ ",I5" ◂ "I5,,I5" ◂ "(,I5)" ◂ "I5I5" ◂ "(I5)(I5)" ◂ "(I5" ◂ "I5)" ◂ ")I5(" ◂ "(((((I5,)))))" ◂ "81X," ◂ "I81,99X"
    ◂ "i5" ◂ "F8.3" ◂ "I5;I5" ◂ "FORMAT(I5)" ◂ "\t" ◂ "I\t5" ◂ "-1X" ◂ "+1X"
    ◂ "I05" ◂ "I0" ◂ "0I5" ◂ "02X" ◂ "00" ◂ "2" ◂ "I" ◂ "A" ◂ "I81" ◂ "A81" ◂ "I99999999999999999999" ◂ "X5" ◂ "I5.2"
    ◂ "E13" ◂ "E13." ◂ "E.5" ◂ "E13.14" ◂ "E13.05" ◂ "E81.1" ◂ "E13,5" ◂ "E0.0"
    ◂ "PE13.5" ◂ "2PE13.5" ◂ "01PE13.5" ◂ "1P1PE13.5" ◂ "31PE13.5" ◂ "1P,E13.5" ◂ "1P" ◂ "1PI5" ◂ "1PA5" ◂ "1PX" ◂ "1P(E13.5)" ◂ "1P03E13.5" ◂ none)
unfolding computed_reading
wrong_texts = refl

-- 26 by its length: 121 bytes, blanks counted; 120 brackets that nothing closes
pub long_texts : AllRefused malformed ((bytes_of "I5" ++ replicate 119 32) ▸ (replicate 120 32) ▸ (replicate 120 40) ▸ (replicate 121 40) ▸ none)
unfolding computed_reading
long_texts = refl

-- 27: over 80 columns, however large a count is, or four groups deep
pub large_texts : AllRefused too_large (
    "81X" ◂ "9I10" ◂ "80X,X" ◂ "81(X)" ◂ "41(X,X)" ◂ "A80,X" ◂ "41A2" ◂ "99999999999999999999I1" ◂ "99999999999999999999A1" ◂ "4294967296(4294967296(4294967296(I1)))"
    ◂ "((((I5)))),I5" ◂ "(((((I5)))))" ◂ "1((((I5))))" ◂ "I5,((((I5))))" ◂ "9(9(9(9X),9X),I80)" ◂ none)
unfolding computed_reading
large_texts = refl

abbrev read : String → List Field → Type 0
read s fs = reading_of (bytes_of s) ≡ fields fs

-- bounds that are met, and blanks anywhere
pub bound_texts : read "80X" (repeated 80 (X ▸ none)) × (read "A80" (A 80 ▸ none) × (read "I80" (I 80 ▸ none) × (read "80I1" (repeated 80 (I 1 ▸ none))
    × (read "E13.0" (E 13 ▸ none) × (read "D13.13" (E 13 ▸ none) × (read "X" (X ▸ none) × (read " 1 0 A 1 " (A 10 ▸ none)
    × (reading_of (bytes_of "I5" ++ replicate 118 32) ≡ fields (I 5 ▸ none)))))))))
unfolding computed_reading
bound_texts = (refl, (refl, (refl, (refl, (refl, (refl, (refl, (refl, refl))))))))

-- counts: of a group all its items in order, of A one text; 1P before E and D changes nothing
pub count_texts : read "2(I5,I10),2(1X,10A1,I10,I4)" (I 5 ▸ I 10 ▸ I 5 ▸ I 10 ▸ X ▸ A 10 ▸ I 10 ▸ I 4 ▸ X ▸ A 10 ▸ I 10 ▸ I 4 ▸ none)
    × (read "20A1" (A 20 ▸ none) × (read "10A2" (A 20 ▸ none) × (read "10A1,10A1" (A 10 ▸ A 10 ▸ none) × (read "2(10A1)" (A 10 ▸ A 10 ▸ none)
    × (read "1P2E15.7" (E 15 ▸ E 15 ▸ none) × (read "1PD25.17" (E 25 ▸ none) × (read "2(1PE13.5)" (E 13 ▸ E 13 ▸ none)
    × (read "2(2(I1,A2),X)" (I 1 ▸ A 2 ▸ I 1 ▸ A 2 ▸ X ▸ I 1 ▸ A 2 ▸ I 1 ▸ A 2 ▸ X ▸ none) × read "1I12,3I6,1I2" (I 12 ▸ I 6 ▸ I 6 ▸ I 6 ▸ I 2 ▸ none)))))))))
unfolding computed_reading
count_texts = (refl, (refl, (refl, (refl, (refl, (refl, (refl, (refl, (refl, refl)))))))))

-- three groups deep, one pair around the whole text not counted
pub deep_texts : read "((((I5))))" (I 5 ▸ none) × (read "1(((I5)))" (I 5 ▸ none) × (read "(I5),(I6)" (I 5 ▸ I 6 ▸ none) × (read "(((I5))),I6" (I 5 ▸ I 6 ▸ none)
    × (read "(I5)" (I 5 ▸ none) × read "((((I5))),I6)" (I 5 ▸ I 6 ▸ none)))))
unfolding computed_reading
deep_texts = (refl, (refl, (refl, (refl, (refl, refl)))))
