-- What the judge's walk says of the sets of a file.
use Rattle.std.specs.Prelude.{◌≡◌, List, [], ◌∷◌, ℕ, ◌+◌, ◌≤◌, length}
use Rattle.walk.specs.declared.Place.{Place}
use Rattle.walk.specs.declared.Place.TheVariants.{Outside, Number, Plain, Typed}
use Rattle.walk.specs.declared.Due.{Due}
use Rattle.walk.specs.declared.State.{State}
use Rattle.parts.specs.Parts.{Part, PartState, outside, opened, inside, next, ended}

-- the delimiters and the number line of a set have at least six columns
pub record Sixes (p : Part) : Type 0 where
  pub opening : 6 ≤ length p.opening
  pub number : 6 ≤ length p.number
  pub closing : 6 ≤ length p.closing

pub data AllSixes : List Part → Type 0 where
  none : AllSixes []
  more : {p : Part} {ps : List Part} → Sixes p → AllSixes ps → AllSixes (p ∷ ps)

-- the walk and the sets stand at the same place
pub data Alike : Place → PartState → Type 0 where
  out : Alike Outside outside
  number : {m b : ℕ} {o : List ℕ} → 6 ≤ length o → Alike Number (opened m b o)
  plain : {m b : ℕ} {o v : List ℕ} {ls : List (List ℕ)} → 6 ≤ length o → 6 ≤ length v → Alike Plain (inside m b o v ls)
  typed : {d : Due} {m b : ℕ} {o v : List ℕ} {ls : List (List ℕ)} → 6 ≤ length o → 6 ≤ length v → Alike (Typed d) (inside m b o v ls)

-- how many sets are open there
abbrev pub open_in : Place → ℕ
open_in Outside = 0
open_in Number = 1
open_in Plain = 1
open_in (Typed d) = 1

-- a line that is not refused, in both accounts
pub record Stepped (pl : Place) (k : ℕ) (t : State) (p : PartState) (n at : ℕ) (l : List ℕ) : Type 0 where
  pub alike : Alike t.place (next p n at l)
  pub count : t.sets + open_in pl ≡ k + length (ended p l) + open_in t.place
  pub sixes : AllSixes (ended p l)

-- lines that are not refused
pub record Walked (s t : State) (ps : List Part) : Type 0 where
  pub count : t.sets + open_in s.place ≡ s.sets + length ps + open_in t.place
  pub sixes : AllSixes ps
