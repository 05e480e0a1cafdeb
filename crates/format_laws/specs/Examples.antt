-- Questions and their answers, computed: the edges of request C-15 on the line. Those on the text are `format` Examples.
use Rattle.std.specs.Prelude.{◌≡◌, refl, true, false, List, ◌++◌, ℕ, replicate}
use mathlib.Core.List as L
use Prim.Native.String.{String}
use Rattle.laws.specs.Run.{run}
use Rattle.text.specs.Blank.{all_blank}
use Rattle.text.specs.Parts.{is_digit}
use Rattle.integer.specs.Integer as I
use Rattle.real.specs.Real.{Real}
use Rattle.real.specs.Real as R
use Rattle.format.specs.Computed.{computed_reading}
use Rattle.line.specs.declared.Refusal.{Refusal}
use Rattle.line.specs.Line.{is_allowed, first_bad, line_fault, filled}
use Rattle.codes.specs.Rule.{keeps}
use Rattle.field.specs.Field.{may_blank, field_number}
use Rattle.record_table.specs.Row.{Field}
use Rattle.record.specs.Check.{first_non_blank, stray}
use Rattle.judge.specs.Judge.{reply_at}
use Rattle.reader.specs.Reader.{Said, said, refused, refused_by, shown}
use Rattle.format_reader.specs.Unruled.{looked_at, unruled_number, unruled_fault, unruled_refusal}
use Rattle.format_reader.specs.Question.{Seen, columns, number, kind_of, field_shown, counts, shown_from, field_in, field_of, form_for, answer_of}
use Rattle.format_laws.specs.Printed.{bytes_of}

-- to open one of these names is to open every definition that it computes with
unfoldable computed_integer : List ℕ → I.Held
unfolding run is_digit I.push I.step_integer I.end_integer I.integer_of
computed_integer field = I.integer_of field

unfoldable computed_real : List ℕ → Real
unfolding run is_digit R.push R.next R.on_coefficient R.on_exponent R.on_digit R.on_sign R.on_point R.on_letter R.on_blank R.is_letter R.scan_step R.real_end R.real_of
computed_real field = R.real_of field

unfoldable computed_refusal : List Field → List ℕ → Refusal
unfolding computed_integer computed_real all_blank keeps may_blank field_number looked_at unruled_number unruled_fault first_non_blank stray unruled_refusal
computed_refusal fs line = unruled_refusal fs line

unfoldable pub computed_answer : List ℕ → ℕ → List ℕ → Said Seen
unfolding computed_reading computed_refusal is_allowed first_bad line_fault filled kind_of field_shown counts shown_from field_in field_of form_for answer_of
computed_answer format k line = answer_of format k line

abbrev ask : String → ℕ → String → Said Seen
ask format k line = answer_of (bytes_of format) k (bytes_of line)

abbrev text : ℕ → ℕ → Said Seen
text a e = said 0 1 (L.◌∷◌ (columns a e) L.[])

abbrev integer : ℕ → ℕ → Said Seen
integer a e = said 0 2 (L.◌∷◌ (columns a e) L.[])

-- the line's refusal, with its column
abbrev at : ℕ → ℕ → Said Seen
at n c = refused_by (reply_at n 1 c)

-- document 01's units, by 000's FORMAT: each field by its number, and none past the last
abbrev units : ℕ → Said Seen
units k = ask "(I10,20A1,I10)" k "         1SI: Meter (newton)           2"

pub units_asked : (units 0 ≡ integer 0 10) × ((units 1 ≡ text 10 30) × ((units 2 ≡ integer 30 40) × ((units 3 ≡ refused 18 0) × (units 4294967295 ≡ refused 18 0))))
unfolding computed_answer
units_asked = (refl, (refl, (refl, (refl, refl))))

-- a real of its line 7: 100000 x 10^-8
pub increment_asked : ask "(3I10,3E13.5)" 4 "         2         7         1  0.00000E+00  1.00000E-03  0.00000E+00"
    ≡ said 0 3 (L.◌∷◌ (number (shown 43 56 false 100000 true 8)) L.[])
unfolding computed_answer
increment_asked = refl

-- columns of X are no field; 10A1,10A1 and 2(10A1) are two texts, 20A1 is one; a count repeats a whole group; a short line is filled; a delimiter is read
-- as any line; the decimals and the letter of the text bind nothing; integers have any length
pub fields_asked : (ask "1X,A3,1X,A3" 0 " abc def" ≡ text 1 4) × ((ask "1X,A3,1X,A3" 1 " abc def" ≡ text 5 8) × ((ask "80X" 0 "" ≡ refused 18 0)
    × ((ask "10A1,10A1" 1 "" ≡ text 10 20) × ((ask "2(10A1)" 1 "" ≡ text 10 20) × ((ask "20A1" 1 "" ≡ refused 18 0)
    × ((ask "2(I1,A2)" 2 "1ab2cd" ≡ integer 3 4) × ((ask "A80" 0 "" ≡ text 0 80) × ((ask "I6" 0 "    -1" ≡ integer 0 6)
    × ((ask "E13.13" 0 "  -1.2d+00345" ≡ at 12 1) × ((ask "D8.0" 0 "-1.2d+03" ≡ said 0 3 (L.◌∷◌ (number (shown 0 8 true 12 false 2)) L.[]))
    × (ask "I12" 0 "999999999999" ≡ integer 0 12)))))))))))
unfolding computed_answer
fields_asked = (refl, (refl, (refl, (refl, (refl, (refl, (refl, (refl, (refl, (refl, (refl, refl)))))))))))

pub eighty_digits : answer_of (bytes_of "I80") 0 (replicate 80 57) ≡ integer 0 80
unfolding computed_answer
eighty_digits = refl

-- the line's own, whichever field is asked, at the first of them: blank and malformed fields, then bytes outside the fields
pub refused_fields_lem : (ask "I5,E13.5" 9 "" ≡ at 24 1) × ((ask "I5,E13.5" 9 "    1" ≡ at 25 6) × ((ask "I5,E13.5" 0 "    1  1.0" ≡ at 12 6)
    × ((ask "I5,E13.5" 0 "    x  1.0" ≡ at 10 1) × ((ask "I1,1X,A1" 0 "1xa y" ≡ at 13 2) × (ask "I1,A1" 7 "1a  y" ≡ at 13 5)))))
unfolding computed_answer
refused_fields_lem = (refl, (refl, (refl, (refl, (refl, refl)))))

-- 81 columns; a byte that is not allowed, past column 80 too; LF and CR, at the line's end too
pub refused_lines : (answer_of (bytes_of "A1") 0 (replicate 81 65) ≡ at 3 1) × ((answer_of (bytes_of "A80") 0 (replicate 80 65) ≡ text 0 80)
    × ((answer_of (bytes_of "A1") 0 (replicate 90 65 ++ (L.◌∷◌ 127 L.[])) ≡ at 2 91) × ((answer_of (bytes_of "A1") 0 (L.◌∷◌ 65 (L.◌∷◌ 10 L.[])) ≡ at 2 2)
    × (answer_of (bytes_of "A1") 0 (L.◌∷◌ 65 (L.◌∷◌ 13 L.[])) ≡ at 2 2))))
unfolding computed_answer
refused_lines = (refl, (refl, (refl, (refl, refl))))

-- 26, then 27, then the line's own, then 18
pub refused_order : (answer_of (bytes_of "81X,") 9 (replicate 81 10) ≡ refused 26 0) × ((answer_of (bytes_of "81X") 9 (replicate 81 10) ≡ refused 27 0)
    × ((answer_of (bytes_of "80X") 9 (replicate 81 10) ≡ at 2 1) × (ask "80X" 9 "" ≡ refused 18 0)))
unfolding computed_answer
refused_order = (refl, (refl, (refl, refl)))
