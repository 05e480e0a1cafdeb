-- Files written out line by line, and those that several cases share.
use mathlib.Core.List as L
use Rattle.std.specs.Prelude.{List, ◌++◌, ℕ}
use Prim.Native.String.{String, [], ◌∷◌}
use Prim.Native.Char.{code}

-- the bytes of a line, with its LF
abbrev bytes : String → List ℕ
bytes [] = L.◌∷◌ 10 L.[]
bytes (c ∷ s) = L.◌∷◌ (code c) (bytes s)

-- a file, line by line
infixr 5 ◌⊕◌
abbrev pub ◌⊕◌ : String → List ℕ → List ℕ
s ⊕ rest = bytes s ++ rest

abbrev pub none : List ℕ
none = L.[]

-- the last line of a set
abbrev pub closing : List ℕ
closing = "    -1" ⊕ none

-- a plain set of one line
abbrev pub plain : String → List ℕ
plain s = "    -1" ⊕ "    57" ⊕ s ⊕ closing

-- lines 8 to 11 of a 58, and what comes after them
abbrev pub axes : List ℕ → List ℕ
axes rest =
    "        17    0    0    0 Time                 s" ⊕ "        12    0    0    0 Acceleration         m/s2"
    ⊕ "         0    0    0    0 NONE                 NONE" ⊕ "         0    0    0    0 NONE                 NONE" ⊕ rest

-- a 58 with these lines 6 and 7, and what comes after line 11
abbrev pub function : String → String → List ℕ → List ℕ
function six seven rest =
    "    -1" ⊕ "    58" ⊕ "Drive end bearing" ⊕ "NONE" ⊕ "NONE" ⊕ "NONE" ⊕ "NONE" ⊕ six ⊕ seven ⊕ axes rest

-- the same with document 01's line 6
abbrev pub measured : String → List ℕ → List ℕ
measured seven rest = function "    1         1    0         0 NONE               7   3 NONE               0   0" seven rest

-- document 01's example
abbrev pub example : List ℕ
example =
    "    -1" ⊕ "   164" ⊕ "         1SI: Meter (newton)           2"
    ⊕ "  1.00000000000000000D+00  1.00000000000000000D+00  1.00000000000000000D+00" ⊕ "  2.73150000000000000D+02" ⊕ "    -1"
    ⊕ measured "         2         7         1  0.00000E+00  1.00000E-03  0.00000E+00"
    ("  1.00000E-01 -2.00000E-01  3.00000E-01 -4.00000E-01  5.00000E-01 -6.00000E-01" ⊕ "  7.00000E-01" ⊕ closing)
