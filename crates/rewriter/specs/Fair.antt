-- Lines and sets within the rules on bytes and columns, and the lines that sets are laid out in.
use Rattle.std.specs.Prelude.{◌≡◌, true, false, List, [], ◌∷◌, ◌++◌, map, ℕ, ◌≤◌, length}
use Prim.{Unit}
use Rattle.line.specs.Line.{Allowed, columns}
use Rattle.parts.specs.Parts.{closes, Part, PartState, outside, opened, inside, dataset_of}
use Rattle.rewriter.specs.Rewriter.{plain_number, kept_of, unpadded}

-- a line that keeps the rules on bytes and columns
pub record Fair (l : List ℕ) : Type 0 where
  pub bytes : Allowed (columns true l)
  pub short : length (columns true l) ≤ 80

pub data FairLines : List (List ℕ) → Type 0 where
  none : FairLines []
  more : {l : List ℕ} {ls : List (List ℕ)} → Fair l → FairLines ls → FairLines (l ∷ ls)

-- the lines of a set: fair, and none of them a delimiter
pub data Inner : List (List ℕ) → Type 0 where
  none : Inner []
  more : {l : List ℕ} {ls : List (List ℕ)} → Fair l → closes l ≡ false → Inner ls → Inner (l ∷ ls)

pub data FairSets : List Part → Type 0 where
  none : FairSets []
  more : {p : Part} {ps : List Part} → Inner p.body → FairSets ps → FairSets (p ∷ ps)

-- what is kept of a set that is still open
abbrev pub FairStand : PartState → Type 0
FairStand outside = Unit {0}
FairStand (opened m b o) = Unit {0}
FairStand (inside m b o v ls) = Inner ls

-- "delimiters .. spelled plainly": four blanks, `-1`, and no more; without its LF
abbrev pub plain_delimiter : List ℕ
plain_delimiter = 32 ∷ 32 ∷ 32 ∷ 32 ∷ 45 ∷ 49 ∷ []

-- the lines that sets are laid out in
unfoldable pub laid : List Part → List (List ℕ)
laid [] = []
laid (p ∷ ps) = plain_delimiter ∷ plain_number (dataset_of p) ∷ (map kept_of (unpadded p) ++ (plain_delimiter ∷ laid ps))
