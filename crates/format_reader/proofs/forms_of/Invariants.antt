-- `format_reader::forms_of` meets its contract.
use Rattle.std.proofs.Common.{◌≡◌, length, take, map}
use Rattle.format_reader.specs.Question.{form_number}
use Rattle.format_reader.proofs.forms_of.Given as goal

-- the forms of the first k kinds stand first
abbrev pub invariant-loop-k : goal.invariant-loop-k
invariant-loop-k l = record { size : length l.forms ≡ 80; first : take l.k l.forms ≡ map form_number (take l.k l.kinds) }
