-- A set of a list as it stands in a text.
use Rattle.std.specs.Prelude.{◌≡◌, List, ◌∷◌, ℕ, drop}
use Rattle.theory.specs.Sets.{Set}
use Rattle.parts.specs.Parts.{Part, parts_of}

-- set k of the list, from 0, is s, and stands in the text as the part q
pub record SetAt (sets : List Set) (bytes : List ℕ) (k : ℕ) (s : Set) (q : Part) : Type 0 where
  pub later : List Set
  pub listed : drop k sets ≡ s ∷ later
  pub others : List Part
  pub stands : drop k (parts_of bytes) ≡ q ∷ others

-- and is a 58
pub record At58 (sets : List Set) (bytes : List ℕ) (k : ℕ) (s : Set) (q : Part) : Type 0 where
  pub at : SetAt sets bytes k s q
  pub number : s.number ≡ 58
