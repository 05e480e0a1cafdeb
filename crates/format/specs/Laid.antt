-- A reading as the code's record lays it out.
use Rattle.std.specs.Prelude.{List, ◌++◌, map, ℕ, ◌-◌, length, replicate, Result, Ok, Err}
use Rattle.format.specs.Format.{Kind, skip, text, integer, real, Field}
use Rattle.format.specs.Reading.{Reading, malformed, too_large, fields}
use Rattle.format.specs.declared.Kind as own
use Rattle.format.specs.declared.Kind.TheVariants.{Skip, Text, Integer, Real}
use Rattle.format.specs.declared.FormatFault.{FormatFault}
use Rattle.format.specs.declared.FormatFault.TheVariants.{Malformed, TooLarge}
use Rattle.format.specs.declared.Fields.{Fields}

-- document 02's numbers of the refusals
abbrev pub fault_number : FormatFault → ℕ
fault_number Malformed = 26
fault_number TooLarge = 27

-- a kind as the code has it
abbrev pub kind_in : Kind → own.Kind
kind_in skip = Skip
kind_in text = Text
kind_in integer = Integer
kind_in real = Real

-- filled with x to 80
unfoldable pub padded : {A : Type 0} → A → List A → List A
padded x l = l ++ replicate (80 - length l) x

abbrev pub kinds_of : List Field → List own.Kind
kinds_of fs = padded Skip (map (λ (f : Field). kind_in f.kind) fs)

abbrev pub widths_of : List Field → List ℕ
widths_of fs = padded 0 (map (λ (f : Field). f.width) fs)

-- the fields as the code's record has them, filled with columns of X of width 0
abbrev pub row_of : List Field → Fields
row_of fs = record { count = length fs; kinds = kinds_of fs; widths = widths_of fs }

unfoldable pub fields_in : Reading → Result Fields FormatFault
fields_in malformed = Err Malformed
fields_in too_large = Err TooLarge
fields_in (fields fs) = Ok (row_of fs)
