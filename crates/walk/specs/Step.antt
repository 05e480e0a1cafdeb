-- The step of one line (01, "What comes back": rows 5 to 8 and 15 of the table, and a record's own refusals). The line is given by
-- its 80 columns; its own refusals 2, 3 and 4 come before.
use Rattle.std.specs.Prelude.{List, ℕ, zero, suc, ◌+◌, ltb}
use Rattle.laws.specs.Choice.{pick}
use Rattle.text.specs.Blank.{all_blank}
use Rattle.line.specs.Line.{refusal}
use Rattle.line.specs.declared.Refusal.{Refusal}
use Rattle.delimiter.specs.Kind.{is_delimiter, dataset_number}
use Rattle.record_table.specs.TypedSets.{kind_of, is_typed}
use Rattle.record.specs.Check.{row_refusal}
use Rattle.walk.specs.declared.Due.{Due}
use Rattle.walk.specs.declared.Place.{Place}
use Rattle.walk.specs.declared.Place.TheVariants.{Outside, Number, Plain, Typed}
use Rattle.walk.specs.declared.State.{State}
use Rattle.std.specs.Prelude.{Result, Ok, Err}
use Rattle.walk.specs.Due.{opening, may_close, may_continue, row_due, after}

abbrev pub state : Place → ℕ → State
state p n = record { place = p; sets = n }

-- a file begins: outside sets, none opened
abbrev pub start : State
start = state Outside 0

-- refused by this refusal; where its number is 0, the state that follows
abbrev pub unless : Refusal → State → Result State Refusal
unless f s = fault f.number
  where
    fault : ℕ → Result State Refusal
    fault zero = Ok s
    fault (suc n) = Err f

-- a set of this number opens: typed, or plain
unfoldable pub opened : ℕ → Place
opened v = pick (is_typed v) (Typed (opening (kind_of v))) Plain

-- outside sets: a blank line, an opening delimiter (15 for "a 4,097th set opens"), or 5
unfoldable pub outside_step : ℕ → List ℕ → Result State Refusal
outside_step n line =
    pick (all_blank line) (Ok (state Outside n))
    (pick (is_delimiter line) (pick (ltb n 4096) (Ok (state Number (n + 1))) (Err (refusal 15 1)))
    (Err (refusal 5 1)))

-- the number line, or 6: "number line wrong, or a delimiter in its place"
unfoldable pub number_step : ℕ → List ℕ → Result State Refusal
number_step n line = pick (ltb 0 (dataset_number line)) (Ok (state (opened (dataset_number line)) n)) (Err (refusal 6 1))

-- in a plain set: any line, or the delimiter that closes it
unfoldable pub plain_step : ℕ → List ℕ → Result State Refusal
plain_step n line = pick (is_delimiter line) (Ok (state Outside n)) (Ok (state Plain n))

-- in a typed set: 7 for a "delimiter while a typed set has lines due", 8 for "another line where the delimiter is due"
unfoldable pub typed_step : Due → ℕ → List ℕ → Result State Refusal
typed_step d n line =
    pick (is_delimiter line) (pick (may_close d) (Ok (state Outside n)) (Err (refusal 7 1)))
    (pick (may_continue d) (unless (row_refusal (row_due d) line) (state (Typed (after d line)) n)) (Err (refusal 8 1)))

-- by the place where the file stands
abbrev pub place_step : Place → ℕ → List ℕ → Result State Refusal
place_step Outside n line = outside_step n line
place_step Number n line = number_step n line
place_step Plain n line = plain_step n line
place_step (Typed d) n line = typed_step d n line

unfoldable pub step_of : State → List ℕ → Result State Refusal
step_of s line = place_step s.place s.sets line
