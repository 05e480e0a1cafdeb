-- Lines skipped by their LFs.
use Rattle.std.specs.Prelude.{◌≡◌, List, [], ◌∷◌, ℕ, zero, suc, ◌+◌, ◌≤◌, eqb, length, drop}
use Rattle.laws.specs.Choice.{pick}

-- the place past the first k LFs of bytes, past all bytes where there are fewer
unfoldable pub past_ends : ℕ → List ℕ → ℕ
past_ends zero bs = 0
past_ends (suc k) [] = 0
past_ends (suc k) (b ∷ bs) = suc (pick (eqb b 10) (past_ends k bs) (past_ends (suc k) bs))

-- past the LFs that are left from the byte at on is where it is past k of them from the byte from on
pub record Skipped (f : List ℕ) (from k at left : ℕ) : Type 0 where
  pub within : at ≤ length f
  pub same : at + past_ends left (drop at f) ≡ from + past_ends k (drop from f)
