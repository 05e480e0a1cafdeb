-- Document 01's example listed, its 58 read and written, an untidy file rewritten, and the kinds of the eight cases, computed from the definitions.
use Rattle.std.specs.Prelude.{◌≡◌, refl, List, ◌++◌, map, ℕ, ℤ, pos, negsuc, get_or, drop, replicate}
use Rattle.std.proofs.Common.{ap, arith}
use mathlib.Core.List as L
use Prim.Native.String.{String}
use Rattle.layout.specs.Layout.{layouts, layout_of}
use Rattle.lister.specs.Lister.{list_reply, list_rows}
use Rattle.reader.specs.Reader as Reader
use Rattle.values.specs.Values.{all_reply, all_places}
use Rattle.rewriter.specs.Rewriter as W
use Rattle.judge.specs.Judge.{reply, reply_at}
use Rattle.header.specs.Header.{answer, header_of}
use Rattle.writer.specs.Writer.{data_text, written_set, write_reply, write_out}
use Rattle.cases.specs.Files.{none, ◌⊕◌, closing, axes, measured, example}
use Rattle.cases.specs.Computed.{computed_list, computed_values, computed_rewrite, computed_data, computed_write}

infixr 5 ◌◂◌
abbrev ◌◂◌ : ℕ → List ℕ → List ℕ
a ◂ l = L.◌∷◌ a l

-- its rows, in sixteen places of which the last two are kept; thirteen are too few
pub example_listed : (list_reply example 16 ≡ reply 0 2)
    × ((list_rows example (replicate 14 0 ++ (8 ◂ 9 ◂ L.[])) ≡ 1 ◂ 164 ◂ 0 ◂ 0 ◂ 164 ◂ 0 ◂ 0 ◂ 7 ◂ 58 ◂ 7 ◂ 164 ◂ 672 ◂ 572 ◂ 0 ◂ 8 ◂ 9 ◂ L.[])
    × (list_reply example 13 ≡ reply 17 0))
unfolding computed_list
example_listed = (refl, (refl, refl))

-- its 58 alone, with its last data line (02, C-13) bare and full
abbrev last_line : String → List ℕ
last_line l =
    measured "         2         7         1  0.00000E+00  1.00000E-03  0.00000E+00"
    ("  1.00000E-01 -2.00000E-01  3.00000E-01 -4.00000E-01  5.00000E-01 -6.00000E-01" ⊕ l ⊕ closing)

abbrev bare : List ℕ
bare = last_line "  7.00000E-01"

abbrev full : List ℕ
full = last_line "  7.00000E-01 -2.00000E-01  3.00000E-01 -4.00000E-01  5.00000E-01 1.00000E+999"

-- the seventh number is the padding numbers; both are rewritten to the same bytes, so their list is one (`theorems` Theorems, `one_list`)
pub padded_pair : (list_rows bare (replicate 7 0) ≡ 1 ◂ 58 ◂ 7 ◂ 0 ◂ 508 ◂ 408 ◂ 0 ◂ L.[])
    × (list_rows full (replicate 7 0) ≡ 1 ◂ 58 ◂ 7 ◂ 0 ◂ 573 ◂ 408 ◂ 5 ◂ L.[])
unfolding computed_list
padded_pair = (refl, refl)

pub padded_rewritten : (W.rewritten_file bare ≡ bare) × (W.rewritten_file full ≡ bare)
unfolding computed_rewrite
padded_rewritten = (refl, refl)

-- its 58's values in eight places, of which the last is kept: 0.1, -0.2, 0.3, -0.4, 0.5, -0.6 and 0.7; six places are too few; set 1 is no 58, and
-- there is no set 0 or 3
pub example_values : (all_reply example 2 8 ≡ reply 0 7)
    × ((all_places example 2 (replicate 8 9)
    ≡ 0x3fb999999999999a ◂ 0xbfc999999999999a ◂ 0x3fd3333333333333 ◂ 0xbfd999999999999a ◂ 0x3fe0000000000000 ◂ 0xbfe3333333333333 ◂ 0x3fe6666666666666 ◂ 9 ◂ L.[])
    × ((all_reply example 2 6 ≡ reply 20 0)
    × ((all_reply example 1 8 ≡ reply 18 0)
    × ((all_reply example 0 8 ≡ reply 18 0)
    × (all_reply example 3 8 ≡ reply 18 0)))))
unfolding computed_values
example_values = (refl, (refl, (refl, (refl, (refl, refl)))))

-- a 58 whose second value is outside the exact path: 21, with room and without, before 20
abbrev outside_exact : List ℕ
outside_exact = measured "         2         2         1  0.00000E+00  1.00000E-03  0.00000E+00" ("  1.00000E-01  1.00000E+28" ⊕ closing)

pub outside_refused : (all_reply outside_exact 1 2 ≡ reply 21 0)
    × ((all_reply outside_exact 1 0 ≡ reply 21 0)
    × (all_places outside_exact 1 (8 ◂ 9 ◂ L.[]) ≡ 8 ◂ 9 ◂ L.[]))
unfolding computed_values
outside_refused = (refl, (refl, refl))

-- lines outside sets, blanks at line ends, a number with a sign, a blank line inside a plain set
pub untidy_rewritten : W.rewritten_file ("" ⊕ "    -1   " ⊕ " +2420" ⊕ "any  thing  " ⊕ "  " ⊕ "    -1" ⊕ "   " ⊕ "    -1" ⊕ "000001" ⊕ "    -1  " ⊕ none)
    ≡ "    -1" ⊕ "  2420" ⊕ "any  thing" ⊕ "" ⊕ "    -1" ⊕ "    -1" ⊕ "     1" ⊕ "    -1" ⊕ none
unfolding computed_rewrite
untidy_rewritten = refl

-- real, abscissa and real, complex pair, abscissa and complex pair, twice
pub kinds : map Reader.value_kind (0 ◂ 1 ◂ 2 ◂ 3 ◂ 4 ◂ 5 ◂ 6 ◂ 7 ◂ L.[]) ≡ 1 ◂ 3 ◂ 2 ◂ 4 ◂ 1 ◂ 3 ◂ 2 ◂ 4 ◂ L.[]
unfolding layouts layout_of Reader.value_kind Reader.is_complex Reader.is_uneven
kinds = refl

-- a header, by its line 7; with blanks at the end of a line
abbrev headed : String → List ℕ
headed seventh =
    "Drive end bearing" ⊕ "NONE" ⊕ "NONE   " ⊕ "NONE" ⊕ "NONE"
    ⊕ "    1         1    0         0 NONE               7   3 NONE               0   0" ⊕ seventh ⊕ axes none

-- the example's, and its numbers
abbrev header : List ℕ
header = headed "         2         7         1  0.00000E+00  1.00000E-03  0.00000E+00"

abbrev coefficients : List ℤ
coefficients = L.◌∷◌ (pos 1) (L.◌∷◌ (negsuc 1) (L.◌∷◌ (pos 3) (L.◌∷◌ (negsuc 3) (L.◌∷◌ (pos 500) (L.◌∷◌ (negsuc 5) (L.◌∷◌ (pos 7) L.[]))))))

abbrev scales : List ℤ
scales = L.◌∷◌ (negsuc 0) (L.◌∷◌ (negsuc 0) (L.◌∷◌ (negsuc 0) (L.◌∷◌ (negsuc 0) (L.◌∷◌ (negsuc 2) (L.◌∷◌ (negsuc 0) (L.◌∷◌ (negsuc 0) L.[]))))))

-- they are written as its text, from the byte 164 on, in 508 bytes; 507 are too few; a scale too few is 22; a number of seven digits is 19 at its index,
-- before 20; with a number too few, one that does not fit and no room it is 22; of a header that is refused, its refusal
pub example_written : (header_of header ≡ answer 0 0 0 7)
    × ((written_set header 0 coefficients scales ≡ drop 164 example)
    × ((write_reply header coefficients scales 508 ≡ reply 0 508)
    × ((write_reply header coefficients scales 507 ≡ reply 20 0)
    × ((write_reply header coefficients (drop 1 scales) 508 ≡ reply 22 0)
    × ((write_reply header (L.◌∷◌ (pos 1) (L.◌∷◌ (pos 1000001) (drop 2 coefficients))) scales 0 ≡ reply 19 1)
    × ((write_reply header (L.◌∷◌ (pos 1000001) L.[]) scales 0 ≡ reply 22 0)
    × (write_reply (headed "         3") L.[] scales 0 ≡ reply_at 11 7 1)))))))
unfolding computed_write
example_written = (refl, (refl, (refl, (refl, (refl, (refl, (refl, refl)))))))

-- the data lines of each case from 5 to 8 for the numbers 0, -0.5, 0.001 and 2500: fields of 13 and of 20 columns
pub double_lines : map (λ (c : ℕ). data_text c 0 (L.◌∷◌ (pos 0) (L.◌∷◌ (negsuc 4) (L.◌∷◌ (pos 1) (L.◌∷◌ (pos 25) L.[])))) (L.◌∷◌ (pos 9) (L.◌∷◌ (negsuc 0) (L.◌∷◌ (negsuc 2) (L.◌∷◌ (pos 2) L.[]))))) (4 ◂ 5 ◂ 6 ◂ 7 ◂ L.[])
    ≡ L.◌∷◌ ("  0.000000000000E+00 -5.000000000000E-01  1.000000000000E-03  2.500000000000E+03" ⊕ none)
    (L.◌∷◌ ("  0.00000E+00 -5.000000000000E-01  1.00000E-03  2.500000000000E+03" ⊕ none)
    (L.◌∷◌ ("  0.000000000000E+00 -5.000000000000E-01  1.000000000000E-03  2.500000000000E+03" ⊕ none)
    (L.◌∷◌ ("  0.00000E+00 -5.000000000000E-01  1.000000000000E-03" ⊕ "  2.50000E+03" ⊕ none) L.[])))
unfolding computed_data
double_lines = refl

-- A writer that touches nothing differs there in the first byte; one that has laid the opening lines before it finds the room too short differs too.
pub touches_nothing : replicate 508 0 ≡ write_out header coefficients scales (replicate 508 0) → ⊥
unfolding write_out
touches_nothing e =
    let w = example_written in
    let z : ◌≡◌ {A = ℕ} 0 32 = ap (λ (l : List ℕ). get_or l 0 0) (rw (w.1.1.0, w.0, w.1.0) at e) in
    omega arith

pub writing_began : W.head_text 58 ++ drop 14 (replicate 507 0) ≡ write_out header coefficients scales (replicate 507 0) → ⊥
unfolding write_out W.head_text
writing_began e =
    let w = example_written in
    let z : ◌≡◌ {A = ℕ} 32 0 = ap (λ (l : List ℕ). get_or l 0 0) (rw w.1.1.1.0 at e) in
    omega arith
