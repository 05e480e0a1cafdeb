-- Document 01's cases marked P ("At the edges"), each a whole input to a call and its whole reply, by one computed statement.
use Rattle.std.specs.Prelude.{◌≡◌, refl, Bool, true, false, List, ℕ, zero, suc, ℤ, pos, negsuc, nat_abs}
use mathlib.Core.List as L
use Rattle.real.specs.Real.{below_zero}
use Rattle.judge.specs.Judge.{judged, reply_at}
use Rattle.reader.specs.Reader.{Said, said, refused_by, Shown, shown, stored_number}
use Rattle.cases.specs.Files.{none, ◌⊕◌, closing, plain, function, measured}
use Rattle.cases.specs.Computed.{computed_number}

-- so many data lines of case 8, each one value, and the end of the set
abbrev values_of_eight : ℕ → List ℕ
values_of_eight zero = closing
values_of_eight (suc k) = "  0.00000E+00  1.000000000000E+00  2.000000000000E+00" ⊕ values_of_eight k

-- a question to the judge, or for a stored number by set and index
pub data Question : Type 0 where
  judges : List ℕ → Question
  asks : List ℕ → ℕ → ℕ → Question

abbrev pub reply : Question → Said Shown
reply (judges f) = refused_by (judged f)
reply (asks f s j) = stored_number f s j

pub record Case : Type 0 where
  pub question : Question
  pub answer : Said Shown

abbrev case : Question → Said Shown → Case
case q a = record { question = q; answer = a }

abbrev accepted : ℕ → Said Shown
accepted n = said 0 n L.[]

abbrev refused : ℕ → ℕ → Said Shown
refused n p = said n p L.[]

-- refused at a line and a column
abbrev refused_at : ℕ → ℕ → ℕ → Said Shown
refused_at n p c = refused_by (reply_at n p c)

-- first and past byte, sign, coefficient, scale
abbrev shows : ℕ → ℕ → Bool → ℕ → ℤ → Said Shown
shows a e n c s = said 0 0 (L.◌∷◌ (shown a e n c (below_zero s) (nat_abs s)) L.[])

infixr 4 ◌⊞◌
abbrev ◌⊞◌ : Case → List Case → List Case
c ⊞ cs = L.◌∷◌ c cs

pub cases : List Case
cases =
    -- "80 columns pass"
    (case (judges (plain "xxxxxxxxxxxxxxxxxxxxxxxxxxxxxxxxxxxxxxxxxxxxxxxxxxxxxxxxxxxxxxxxxxxxxxxxxxxxxxxx")) (accepted 4)) ⊞
    -- "81 give 3"
    (case (judges (plain "xxxxxxxxxxxxxxxxxxxxxxxxxxxxxxxxxxxxxxxxxxxxxxxxxxxxxxxxxxxxxxxxxxxxxxxxxxxxxxxxx")) (refused_at 3 3 1)) ⊞
    -- "Empty file 16"
    (case (judges none) (refused 16 0)) ⊞
    -- "Function type 28 passes"
    (case (judges (function "   28         1    0         0 NONE               7   3 NONE               0   0" "         2         1         1  0.00000E+00  1.00000E-03  0.00000E+00" ("  1.00000E-01" ⊕ closing))) (accepted 15)) ⊞
    -- "29 is 11"
    (case (judges (function "   29         1    0         0 NONE               7   3 NONE               0   0" "         2         1         1  0.00000E+00  1.00000E-03  0.00000E+00" ("  1.00000E-01" ⊕ closing))) (refused_at 11 8 1)) ⊞
    -- "Direction -6 passes"
    (case (judges (function "    1         1    0         0 NONE               7  -6 NONE               0   0" "         2         1         1  0.00000E+00  1.00000E-03  0.00000E+00" ("  1.00000E-01" ⊕ closing))) (accepted 15)) ⊞
    -- "-7 is 11"
    (case (judges (function "    1         1    0         0 NONE               7  -7 NONE               0   0" "         2         1         1  0.00000E+00  1.00000E-03  0.00000E+00" ("  1.00000E-01" ⊕ closing))) (refused_at 11 8 52)) ⊞
    -- "`2147483647` passes in I10"
    (case (judges (function "    12147483647    0         0 NONE               7   3 NONE               0   0" "         2         1         1  0.00000E+00  1.00000E-03  0.00000E+00" ("  1.00000E-01" ⊕ closing))) (accepted 15)) ⊞
    -- "`2147483648` is 11"
    (case (judges (function "    12147483648    0         0 NONE               7   3 NONE               0   0" "         2         1         1  0.00000E+00  1.00000E-03  0.00000E+00" ("  1.00000E-01" ⊕ closing))) (refused_at 11 8 6)) ⊞
    -- "Thirteen blanks in a due real field are 12"; 02, C-14: "01's thirteen blanks become 25"
    (case (judges (measured "         2         1         1  0.00000E+00  1.00000E-03  0.00000E+00" ("             " ⊕ closing))) (refused_at 25 14 1)) ⊞
    -- "`1.00000E-01` is 100000 × 10^-6"
    (case (asks (measured "         2         1         1  0.00000E+00  1.00000E-03  0.00000E+00" ("  1.00000E-01" ⊕ closing)) 1 0) (shows 408 421 false 100000 (negsuc 5))) ⊞
    -- "`-.5E+00` is -5 × 10^-1"
    (case (asks (measured "         2         1         1  0.00000E+00  1.00000E-03  0.00000E+00" ("      -.5E+00" ⊕ closing)) 1 0) (shows 408 421 true 5 (negsuc 0))) ⊞
    -- "`1.E+00` is 1 × 10^0"
    (case (asks (measured "         2         1         1  0.00000E+00  1.00000E-03  0.00000E+00" ("       1.E+00" ⊕ closing)) 1 0) (shows 408 421 false 1 (pos 0))) ⊞
    -- "A count of 7 in case 1 takes two lines"
    (case (judges (measured "         2         7         1  0.00000E+00  1.00000E-03  0.00000E+00" ("  1.00000E-01  1.00000E-01  1.00000E-01  1.00000E-01  1.00000E-01  1.00000E-01" ⊕ "  1.00000E-01" ⊕ closing))) (accepted 16)) ⊞
    -- one line is not enough
    (case (judges (measured "         2         7         1  0.00000E+00  1.00000E-03  0.00000E+00" ("  1.00000E-01  1.00000E-01  1.00000E-01  1.00000E-01  1.00000E-01  1.00000E-01" ⊕ closing))) (refused_at 7 15 1)) ⊞
    -- three are too many
    (case (judges (measured "         2         7         1  0.00000E+00  1.00000E-03  0.00000E+00" ("  1.00000E-01  1.00000E-01  1.00000E-01  1.00000E-01  1.00000E-01  1.00000E-01" ⊕ "  1.00000E-01" ⊕ "  1.00000E-01" ⊕ closing))) (refused_at 8 16 1)) ⊞
    -- "in case 8 seven"
    (case (judges (measured "         6         7         0  0.00000E+00  0.00000E+00  0.00000E+00" (values_of_eight 7))) (accepted 21)) ⊞
    -- six lines are not enough
    (case (judges (measured "         6         7         0  0.00000E+00  0.00000E+00  0.00000E+00" (values_of_eight 6))) (refused_at 7 20 1)) ⊞
    -- eight are too many
    (case (judges (measured "         6         7         0  0.00000E+00  0.00000E+00  0.00000E+00" (values_of_eight 8))) (refused_at 8 21 1)) ⊞
    L.[]

-- the reply to each question is the one that document 01 names
pub named_replies : L.map (λ (c : Case). reply c.question) cases ≡ L.map (λ (c : Case). c.answer) cases
unfolding cases computed_number
named_replies = refl
