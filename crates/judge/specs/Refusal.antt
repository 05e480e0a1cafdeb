-- The refusal that a line gets, where it gets one: a property of it, and the numbers that it can have.
use Rattle.std.specs.Prelude.{◌⊎◌, ℕ, ◌≤◌}
use Prim.{Unit}
use Rattle.line.specs.declared.Refusal.{Refusal}
use Rattle.std.specs.Prelude.{Result, Ok, Err}
use Rattle.walk.specs.declared.State.{State}

abbrev pub Refusing : (Refusal → Type 0) → Result State Refusal → Type 0
Refusing P (Ok s) = Unit {0}
Refusing P (Err f) = P f

-- a refusal's number whose place is a line: 2 to 15, and 24 and 25
abbrev pub LineNumber : ℕ → Type 0
LineNumber n = (2 ≤ n) × ((n ≤ 15) ⊎ ((24 ≤ n) × (n ≤ 25)))
