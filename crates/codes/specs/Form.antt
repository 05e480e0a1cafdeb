-- The forms of a field, and the number by which the table of records names each.
use Rattle.std.specs.Prelude.{Bool, List, [], ◌∷◌, ℕ, get_or}
use Rattle.text.specs.Parts.{signed}
use Rattle.codes.specs.Rule.{Rule, any, from, span, around, codes, keeps}

-- where an integer may be left blank: never, or where all columns from the first to before the second (from 0) are blank
pub data Optional : Type 0 where
  never : Optional
  within : ℕ → ℕ → Optional

pub data Form : Type 0 where
  -- columns that belong to no field
  skip : Form
  -- a text
  text : Form
  -- a text that may not be blank
  identification : Form
  real : Form
  integer : Rule → Optional → Form

-- The rules, in document 01's order.
-- 58: "function type 0 to 28; directions -6 to 6"; "ordinate type 2, 4, 5 or 6; count 1 to 65,536; spacing 0 or 1"; "data type
-- one of .."
abbrev pub function_type : Rule
function_type = span 0 28

abbrev pub direction : Rule
direction = around 6

abbrev pub ordinate_type : Rule
ordinate_type = codes (2 ∷ 4 ∷ 5 ∷ 6 ∷ [])

abbrev pub count : Rule
count = span 1 65536

abbrev pub spacing : Rule
spacing = span 0 1

-- 01's list: 001 goes on to 23
abbrev pub data_type : Rule
data_type = codes (0 ∷ 1 ∷ 2 ∷ 3 ∷ 5 ∷ 6 ∷ 8 ∷ 9 ∷ 11 ∷ 12 ∷ 13 ∷ 15 ∷ 16 ∷ 17 ∷ 18 ∷ 19 ∷ [])

-- 82: "entries 1 to 250"
abbrev pub entries : Rule
entries = span 1 250

-- 151: "the last 0 to 2" (its file type)
abbrev pub file_type : Rule
file_type = span 0 2

-- 164: "code 1 to 9; mode blank, 1 or 2"
abbrev pub units_code : Rule
units_code = span 1 9

abbrev pub temperature_mode : Rule
temperature_mode = span 1 2

-- 1815: the codes that 004 lists
abbrev pub trigger_type : Rule
trigger_type = span 0 3

abbrev pub duplicate_option : Rule
duplicate_option = span 1 2

abbrev pub window : Rule
window = span 0 3

abbrev pub slope : Rule
slope = around 1

abbrev pub delay_type : Rule
delay_type = span 1 3

abbrev pub autorange_method : Rule
autorange_method = span 1 2

abbrev pub acquisition_results : Rule
acquisition_results = codes (2 ∷ 3 ∷ 5 ∷ 6 ∷ 7 ∷ 8 ∷ 9 ∷ 10 ∷ 11 ∷ 12 ∷ 13 ∷ 14 ∷ [])

abbrev pub power_accumulation : Rule
power_accumulation = span 0 2

abbrev pub amplitude_units : Rule
amplitude_units = span 0 3

abbrev pub display_units : Rule
display_units = span 1 2

abbrev pub background_grid : Rule
background_grid = span 0 3

abbrev pub acquisition_monitor : Rule
acquisition_monitor = span 0 9

-- 1815: "Record 24's two counts are 0 to 256"
abbrev pub orders : Rule
orders = span 0 256

-- the forms by number, from 0; those past the end are skipped columns
unfoldable pub forms : List Form
forms =
    skip ∷ text ∷ identification ∷ real
    ∷ integer any never ∷ integer (from 0) never ∷ integer (from 1) never
    ∷ integer function_type never ∷ integer direction never ∷ integer ordinate_type never ∷ integer count never ∷ integer spacing never
    ∷ integer data_type never ∷ integer entries never
    ∷ integer any (within 20 50) ∷ integer file_type (within 20 50)
    ∷ integer units_code never ∷ integer temperature_mode (within 30 40)
    ∷ integer trigger_type never ∷ integer duplicate_option never ∷ integer window never ∷ integer slope never ∷ integer delay_type never
    ∷ integer autorange_method never ∷ integer acquisition_results never ∷ integer power_accumulation never ∷ integer amplitude_units never
    ∷ integer display_units never ∷ integer background_grid never ∷ integer acquisition_monitor never ∷ integer orders never ∷ []

abbrev pub last_form : ℕ
last_form = 30

unfoldable pub form_of : ℕ → Form
form_of k = get_or forms k skip

-- the rule of a form; any integer for a form that is no integer
abbrev pub rule_of : Form → Rule
rule_of skip = any
rule_of text = any
rule_of identification = any
rule_of real = any
rule_of (integer r o) = r

-- whether the integer of a sign and a size keeps the rule of form number k; true for a form that is no integer
unfoldable pub allowed_of : ℕ → Bool → ℕ → Bool
allowed_of k n v = keeps (rule_of (form_of k)) (signed n v)

-- where a form may be left blank; never for a form that is no integer
abbrev pub optional_of : Form → Optional
optional_of skip = never
optional_of text = never
optional_of identification = never
optional_of real = never
optional_of (integer r o) = o

-- the first of the columns that are all blank where a form is left blank; 0 for never
abbrev pub blank_from : Optional → ℕ
blank_from never = 0
blank_from (within a b) = a

-- the column past them; 0 for never
abbrev pub blank_past : Optional → ℕ
blank_past never = 0
blank_past (within a b) = b
