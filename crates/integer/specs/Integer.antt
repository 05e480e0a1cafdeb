-- What is read in the columns of an integer field: a fold over the bytes. `IntegerLaws` proves that it agrees with the spelling.
use Rattle.std.specs.Prelude.{Bool, true, false, List, ℕ, ◌+◌, ◌-◌, ◌*◌, min, leb, ltb, eqb, Result, Ok, Err}
use Rattle.laws.specs.Choice.{pick}
use Rattle.laws.specs.Run.{run}
use Rattle.text.specs.Parts.{is_digit}
use Rattle.integer.specs.Spelling.{limit}
use Rattle.integer.specs.declared.Scan.{Scan}
use Rattle.integer.specs.declared.Integer.{Integer}
use Rattle.integer.specs.declared.IntegerFault.{IntegerFault}
use Rattle.integer.specs.declared.IntegerFault.TheVariants.{Blank, Malformed, OutOfRange}

-- what a field holds: the integer of a sign (true: minus) and a size, or why it holds none
abbrev pub Held : Type 0
Held = Result Integer IntegerFault

abbrev pub valued : Bool → ℕ → Held
valued n v = Ok (record { minus = n; size = v })

abbrev pub scan : ℕ → Bool → ℕ → Scan
scan p n m = record { phase = p; minus = n; size = m }

-- phase 0: only blanks so far; 1: a sign; 2: digits; 3: malformed
abbrev pub start : Scan
start = scan 0 false 0

abbrev pub bad : Scan
bad = scan 3 false 0

-- one digit more; a size past the range stays past it
unfoldable pub push : ℕ → ℕ → ℕ
push m d = min (m * 10 + d) 4294967296

unfoldable pub step_integer : Scan → ℕ → Scan
step_integer s b =
    pick (is_digit b)
    (pick (ltb s.phase 3) (scan 2 s.minus (push s.size (b - 48))) bad)
    (pick (eqb s.phase 0) (pick (eqb b 32) s (pick (eqb b 43) (scan 1 false 0) (pick (eqb b 45) (scan 1 true 0) bad))) bad)

unfoldable pub end_integer : Scan → Held
end_integer s =
    pick (eqb s.phase 0) (Err Blank)
    (pick (eqb s.phase 2) (pick (leb s.size (limit s.minus)) (valued s.minus s.size) (Err OutOfRange)) (Err Malformed))

unfoldable pub integer_of : List ℕ → Held
integer_of l = end_integer (run step_integer start l)
