-- A file for each dataset, and one of a plain set, all accepted: with `theorems` Theorems they show that each has proper writings.
use Rattle.std.specs.Prelude.{◌≡◌, refl, List, ℕ}
use mathlib.Core.List as L
use Rattle.judge.specs.Judge.{reply, judged}
use Rattle.cases.specs.Files.{none, ◌⊕◌, example}
use Rattle.cases.specs.Computed.{computed_judge}

-- a set 1815: its records up to the 4th, the 8th, the 12th and the 18th, the others with its lists
abbrev to4th : List ℕ → List ℕ
to4th rest = "    -1" ⊕ "  1815" ⊕ "           1Overall" ⊕ "  0.0000000E+00  0.0000000E+00" ⊕ " 0     0 0     1           0" ⊕ "  0.0000000E+00  0.0000000E+00" ⊕ rest

abbrev to8th : List ℕ → List ℕ
to8th rest = "  0.0000000E+00  0.0000000E+00" ⊕ "  0.0000000E+00  0.0000000E+00  0.0000000E+00           0 0" ⊕ "  0.0000000E+00 0           0     0" ⊕ "           0" ⊕ rest

abbrev to12th : List ℕ → List ℕ
to12th rest = "     0  0.0000000E+00" ⊕ " 0     1           0  0.0000000E+00  0.0000000E+00" ⊕ " 0     1  0.0000000E+00  0.0000000E+00  0.0000000E+00" ⊕ "     2     0     0 0 0 0 0 0 0 0 0" ⊕ rest

abbrev to18th : List ℕ → List ℕ
to18th rest = "" ⊕ "" ⊕ "           0     1     0     0 0" ⊕ "     0  0.0000000E+00  0.0000000E+00" ⊕ " 0           0  0.0000000E+00" ⊕ " 0" ⊕ rest

abbrev last_records : List ℕ
last_records = " 0 0           0" ⊕ "" ⊕ "" ⊕ "" ⊕ "" ⊕ "           0           6" ⊕ "  0.0000000E+00  0.0000000E+00  0.0000000E+00  0.0000000E+00  0.0000000E+00" ⊕ "  0.0000000E+00" ⊕ "    -1" ⊕ none

-- an accepted file and the number of its lines
pub record Case : Type 0 where
  pub file : List ℕ
  pub lines : ℕ

abbrev case : List ℕ → ℕ → Case
case f n = record { file = f; lines = n }

infixr 4 ◌⊞◌
abbrev ◌⊞◌ : Case → List Case → List Case
c ⊞ cs = L.◌∷◌ c cs

pub cases : List Case
cases =
    -- document 01's example: 164 and 58
    (case example 22) ⊞
    -- 82, nine entries on two lines
    (case ("    -1" ⊕ "    82" ⊕ "         1         9         0" ⊕ "TRACE" ⊕ "         1         1         1         1         1         1         1         1" ⊕ "         0" ⊕ "    -1" ⊕ none) 7) ⊞
    -- 151, its three integers blank
    (case ("    -1" ⊕ "   151" ⊕ "model" ⊕ "" ⊕ "program" ⊕ "15-NOV-26 10:00:00" ⊕ "15-NOV-26 10:00:00" ⊕ "program" ⊕ "15-NOV-26 10:00:00" ⊕ "    -1" ⊕ none) 10) ⊞
    -- 1815, two lists
    (case (to4th (to8th (to12th (to18th last_records)))) 29) ⊞
    -- a plain set, with a blank line
    (case ("" ⊕ "    -1" ⊕ "  2420" ⊕ "anything" ⊕ "" ⊕ "    -1" ⊕ "" ⊕ none) 7) ⊞
    L.[]

-- each of these files is accepted
pub accepted : L.map (λ (c : Case). judged c.file) cases ≡ L.map (λ (c : Case). reply 0 c.lines) cases
unfolding cases computed_judge
accepted = refl
