-- The records of 58, 82, 151, 164 and 1815 as one table (01, "Records"; 001, 000 and 004 print their FORMATs, 002 that of 164's third line).
use Rattle.std.specs.Prelude.{List, [], ◌∷◌, map, eqb, ℕ, get_or}
use Rattle.laws.specs.Choice.{pick}
use Rattle.codes.specs.Rule.{any, from, Rule}
use Rattle.codes.specs.Form.{skip, text, identification, real, integer, never, within, function_type, direction, ordinate_type, count, spacing, data_type, entries, file_type, units_code, temperature_mode, trigger_type, duplicate_option, window, slope, delay_type, autorange_method, acquisition_results, power_accumulation, amplitude_units, display_units, background_grid, acquisition_monitor, orders, form_of}
use Rattle.layout.specs.Layout.{layout_of}
use Rattle.record_table.specs.Row.{Field, Row, blanks, padding, none, zero_if_uneven, above_zero}

-- a field of each form, by its width: Aw, a text that may not be blank, wX, Ew.d or Dw.d, Iw
abbrev pub A : ℕ → Field
A w = record { form = text; width = w }

abbrev pub T : ℕ → Field
T w = record { form = identification; width = w }

abbrev pub X : ℕ → Field
X w = record { form = skip; width = w }

abbrev pub E : ℕ → Field
E w = record { form = real; width = w }

abbrev pub I : ℕ → Rule → Field
I w r = record { form = integer r never; width = w }

-- an integer that may be left blank where all columns from a to before e are
abbrev pub I? : ℕ → Rule → ℕ → ℕ → Field
I? w r a e = record { form = integer r (within a e); width = w }

abbrev pub plain : List Field → Row
plain fs = record { fields = fs; remainder = blanks; condition = none }

-- the records by number, from 0; the code's constants name them
unfoldable pub records : List Row
records =
    -- 0, 80 columns of text: 151's lines 1, 2, 3 and 6; 1815's record 14, and records 20 to 23, which 01 takes as any text
    plain (A 80 ∷ [])
    -- 1, a text that may not be blank: 58's lines 1 to 5, 82's line 2
    ∷ plain (T 80 ∷ [])
    -- 2, 58's line 6: 2(I5,I10),2(1X,10A1,I10,I4)
    ∷ plain (I 5 function_type ∷ I 10 any ∷ I 5 any ∷ I 10 any ∷ X 1 ∷ A 10 ∷ I 10 any ∷ I 4 direction ∷ X 1 ∷ A 10 ∷ I 10 any ∷ I 4 direction ∷ [])
    -- 3, 58's line 7: 3I10,3E13.5
    ∷ record { fields = I 10 ordinate_type ∷ I 10 count ∷ I 10 spacing ∷ E 13 ∷ E 13 ∷ E 13 ∷ []; remainder = blanks; condition = zero_if_uneven }
    -- 4, 58's lines 8 to 11: I10,3I5,2(1X,20A1)
    ∷ plain (I 10 data_type ∷ I 5 any ∷ I 5 any ∷ I 5 any ∷ X 1 ∷ A 20 ∷ X 1 ∷ A 20 ∷ [])
    -- 5, 82's line 1: 3I10
    ∷ plain (I 10 (from 1) ∷ I 10 entries ∷ I 10 (from 0) ∷ [])
    -- 6, 82's entries: 8I10
    ∷ plain (I 10 (from 0) ∷ I 10 (from 0) ∷ I 10 (from 0) ∷ I 10 (from 0) ∷ I 10 (from 0) ∷ I 10 (from 0) ∷ I 10 (from 0) ∷ I 10 (from 0) ∷ [])
    -- 7, 151's line 4: two texts of 10, 3I10, "all three blank or all present"; in a mixture each blank one is refused
    ∷ plain (A 10 ∷ A 10 ∷ I? 10 any 20 50 ∷ I? 10 any 20 50 ∷ I? 10 file_type 20 50 ∷ [])
    -- 8, 151's lines 5 and 7: two texts of 10
    ∷ plain (A 10 ∷ A 10 ∷ [])
    -- 9, 164's line 1: I10,20A1,I10
    ∷ plain (I 10 units_code ∷ A 20 ∷ I? 10 temperature_mode 30 40 ∷ [])
    -- 10, 164's factors: 3D25.17
    ∷ record { fields = E 25 ∷ E 25 ∷ E 25 ∷ []; remainder = blanks; condition = above_zero }
    -- 11, 164's offset, on a line of its own: D25.17
    ∷ plain (E 25 ∷ [])
    -- 12, 1815's record 1: I12,10A2
    ∷ plain (I 12 any ∷ A 20 ∷ [])
    -- 13, records 2, 4 and 5: 1P2E15.7
    ∷ plain (E 15 ∷ E 15 ∷ [])
    -- 14, record 3: 2(1I2,1I6),1I12
    ∷ plain (I 2 any ∷ I 6 trigger_type ∷ I 2 any ∷ I 6 duplicate_option ∷ I 12 any ∷ [])
    -- 15, record 6: 1P3E15.7,1I12,1I2
    ∷ plain (E 15 ∷ E 15 ∷ E 15 ∷ I 12 any ∷ I 2 any ∷ [])
    -- 16, record 7: 1P1E15.7,1I2,1I12,1I6
    ∷ plain (E 15 ∷ I 2 any ∷ I 12 any ∷ I 6 window ∷ [])
    -- 17, record 8: 1I12
    ∷ plain (I 12 any ∷ [])
    -- 18, record 9: 1I6,1P1E15.7
    ∷ plain (I 6 slope ∷ E 15 ∷ [])
    -- 19, record 10: 1I2,1I6,1I12,1P2E15.7
    ∷ plain (I 2 any ∷ I 6 delay_type ∷ I 12 any ∷ E 15 ∷ E 15 ∷ [])
    -- 20, record 11: 1I2,1I6,1P3E15.7
    ∷ plain (I 2 any ∷ I 6 autorange_method ∷ E 15 ∷ E 15 ∷ E 15 ∷ [])
    -- 21, record 12: 3I6,8I2
    ∷ plain (I 6 acquisition_results ∷ I 6 power_accumulation ∷ I 6 amplitude_units ∷ I 2 any ∷ I 2 any ∷ I 2 any ∷ I 2 any ∷ I 2 any ∷ I 2 any ∷ I 2 any ∷ I 2 any ∷ [])
    -- 22, record 13: 10A2
    ∷ plain (A 20 ∷ [])
    -- 23, record 15: 1I12,3I6,1I2
    ∷ plain (I 12 any ∷ I 6 display_units ∷ I 6 background_grid ∷ I 6 acquisition_monitor ∷ I 2 any ∷ [])
    -- 24, record 16: 1I6,1P2E15.7
    ∷ plain (I 6 any ∷ E 15 ∷ E 15 ∷ [])
    -- 25, record 17: 1I2,1I12,1P1E15.7
    ∷ plain (I 2 any ∷ I 12 any ∷ E 15 ∷ [])
    -- 26, record 18: 1I2
    ∷ plain (I 2 any ∷ [])
    -- 27, record 19: 2I2,1I12
    ∷ plain (I 2 any ∷ I 2 any ∷ I 12 any ∷ [])
    -- 28, record 24: 2I12, "0 to 256"
    ∷ plain (I 12 orders ∷ I 12 orders ∷ [])
    -- 29, the lists after record 24: 1P5E15.7
    ∷ plain (E 15 ∷ E 15 ∷ E 15 ∷ E 15 ∷ E 15 ∷ [])
    ∷ []

-- a text that may not be blank, 58's lines 6, 7 and 8 to 11, 82's entries, 164's factors and 1815's lists, by number
abbrev pub identification_form : ℕ
identification_form = 1

abbrev pub function_form : ℕ
function_form = 2

abbrev pub data_form : ℕ
data_form = 3

abbrev pub axis_form : ℕ
axis_form = 4

abbrev pub trace_entries : ℕ
trace_entries = 6

abbrev pub unit_factors : ℕ
unit_factors = 10

abbrev pub order_lists : ℕ
order_lists = 29

-- how many they are; as a record's number it stands for none
abbrev pub no_record : ℕ
no_record = 30

unfoldable pub record_of : ℕ → Row
record_of k = get_or records k (plain [])

-- a data line of 58, full, by its case from 0; of no other row is what is cut off padding
unfoldable pub data_row : ℕ → Row
data_row c = record { fields = map E (layout_of c).widths; remainder = padding []; condition = none }

-- a row as the code's tables give it: forms by number, and widths, which a width of 0 ends
unfoldable pub field_list : List ℕ → List ℕ → List Field
field_list [] ws = []
field_list (k ∷ ks) [] = []
field_list (k ∷ ks) (w ∷ ws) = pick (eqb w 0) [] (record { form = form_of k; width = w } ∷ field_list ks ws)
