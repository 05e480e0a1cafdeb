-- Where the next set of a file stands, by numbers alone.
use Rattle.std.specs.Prelude.{Option, Some, None, List, [], ◌∷◌, ◌≡◌, ℕ, zero, suc, ◌+◌, leb, length, take, drop}
use Prim.{Unit}
use Rattle.laws.specs.Cut.{cut, line_len}
use Rattle.laws.specs.Choice.{pick}
use Rattle.parts.specs.declared.Extent.{Extent}
use Rattle.parts.specs.Parts.{columns_in, Part, dataset_of, line_start, last_start, closing_start, past_of, through_of, bytes_in, PartState, outside, opened, inside}

abbrev pub extent : ℕ → ℕ → ℕ → ℕ → ℕ → ℕ → ℕ → ℕ → Extent
extent n at v b l c e t = record { lines = n; first = at; number = v; body = b; last = l; closing = c; past = e; through = t }

-- where the first of these sets stands
unfoldable pub first_of : List Part → Option Extent
first_of [] = None
first_of (p ∷ ps) = Some (extent p.lines p.bytes (dataset_of p) (line_start p 0) (last_start p) (closing_start p) (past_of p) (through_of p))

-- the first byte of line k of lines that begin at the byte at and stop before the byte stop; the byte where they stop if there is none
unfoldable pub skip_to : ℕ → ℕ → ℕ → List (List ℕ) → ℕ
skip_to zero stop at ls = at
skip_to (suc k) stop at [] = at
skip_to (suc k) stop at (l ∷ ls) = pick (leb stop at) at (skip_to k stop (at + suc (length l)) ls)

-- the 80 columns of the first of lines that begin at the byte at and stop before the byte stop; blanks if there is none
unfoldable pub columns_at : ℕ → ℕ → List ℕ → List ℕ
columns_at stop at file = columns_in (pick (leb stop at) [] (take (line_len (drop at file)) (drop at file)))

-- the 80 columns of line k of lines that begin at the byte from and stop before the byte stop
unfoldable pub line_from : ℕ → ℕ → List ℕ → ℕ → List ℕ
line_from stop from file k = columns_at stop (skip_to k stop from (cut (drop from file)).lines) file

-- as many lines and bytes have come as a set's lines so far are
abbrev pub Fitting : PartState → ℕ → ℕ → Type 0
Fitting outside n at = Unit {0}
Fitting (opened m b o) n at = (n ≡ suc m) × (at ≡ b + suc (length o))
Fitting (inside m b o v ls) n at = (n ≡ m + suc (suc (length ls))) × (at ≡ (b + bytes_in (o ∷ v ∷ [])) + bytes_in ls)

-- what is found is the first of the sets
pub record First (ps : List Part) (e : Extent) : Type 0 where
  pub set : Part
  pub others : List Part
  pub sets : ps ≡ set ∷ others
  pub lines : e.lines ≡ set.lines
  pub first : e.first ≡ set.bytes
  pub number : e.number ≡ dataset_of set
  pub body : e.body ≡ line_start set 0
  pub last : e.last ≡ last_start set
  pub closing : e.closing ≡ closing_start set
  pub past : e.past ≡ past_of set
  pub through : e.through ≡ through_of set
