-- The judge's state as the image of a reading: it keeps the place and how many sets are opened, and forgets what was read.
use Prim.{Unit}
use Rattle.std.specs.Prelude.{◌+◌, ◌<◌, length}
use Rattle.line.specs.declared.Refusal.{Refusal}
use Rattle.walk.specs.declared.Place.TheVariants.{Outside, Number, Plain, Typed}
use Rattle.walk.specs.declared.State.{State}
use Rattle.std.specs.Prelude.{Result, Ok, Err}
use Rattle.walk.specs.Step.{start, state}
use Rattle.judge_laws.specs.ListReader.{Reading, outside, number, plain, typed, bad}

-- a reading that is not refused
abbrev pub Standing : Reading → Type 0
Standing (outside acc) = Unit
Standing (number acc) = Unit
Standing (plain acc v iss) = Unit
Standing (typed acc v iss d) = Unit
Standing bad = ⊥

-- the judge's state; a refused reading has none, and is given the first
abbrev pub image : Reading → State
image (outside acc) = state Outside (length acc)
image (number acc) = state Number (length acc + 1)
image (plain acc v iss) = state Plain (length acc + 1)
image (typed acc v iss d) = state (Typed d) (length acc + 1)
image bad = start

-- a line's outcome agrees with the reading after it: the image of one that stands, or a refusal of some number
pub data Agrees : Result State Refusal → Reading → Type 0 where
  stands : (r : Reading) → Standing r → Agrees (Ok (image r)) r
  refused : {f : Refusal} → 0 < f.number → Agrees (Err f) bad
