-- Lines that are kept as they stand: no blank and no CR is before their LF.
use Rattle.std.specs.Prelude.{◌≡◌, Bool, true, not, ◌&&◌, ◌||◌, List, [], ◌∷◌, ◌++◌, ℕ, suc, ◌-◌, ◌≤◌, ◌<◌, eqb, length, get_or, take, drop}
use Rattle.rewriter.specs.Rewriter.{kept_of}
use Rattle.rewriter.specs.Body.{body_text}

-- whether no LF of the second bytes has a blank or a CR beside it in the first
unfoldable pub bare_in : List ℕ → List ℕ → Bool
bare_in [] cs = true
bare_in (b ∷ bs) [] = true
bare_in (b ∷ bs) (c ∷ cs) = not (eqb c 10 && (eqb b 32 || eqb b 13)) && bare_in bs cs

-- an LF at the byte after k does not follow a blank or a CR
pub record Bare (f : List ℕ) (k : ℕ) : Type 0 where
  pub blank : get_or f (suc k) 0 ≡ 10 → get_or f k 0 ≡ 32 → ⊥
  pub return : get_or f (suc k) 0 ≡ 10 → get_or f k 0 ≡ 13 → ⊥

-- the same of every byte from one place to another, which is before the byte closing unless it is the first
pub record Bared (f : List ℕ) (from closing at : ℕ) : Type 0 where
  pub onward : from ≤ at
  pub inside : from < at → at < closing
  pub bare : (k : ℕ) → from ≤ k → k < at → Bare f k

-- the lines between two bytes are kept as they stand
pub record Run (f : List ℕ) (from closing at : ℕ) : Type 0 where
  pub onward : from ≤ at
  pub within : at ≤ length f
  pub same : body_text closing from f ≡ take (at - from) (drop from f) ++ body_text closing at f

-- lines of which all is kept
pub data Whole : List (List ℕ) → Type 0 where
  none : Whole []
  more : {l : List ℕ} {ls : List (List ℕ)} → kept_of l ≡ l → Whole ls → Whole (l ∷ ls)

-- bytes that end in an LF, or none
pub data Ended : List ℕ → Type 0 where
  none : Ended []
  last : Ended (10 ∷ [])
  more : {b c : ℕ} {l : List ℕ} → Ended (c ∷ l) → Ended (b ∷ c ∷ l)
