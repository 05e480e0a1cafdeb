-- Numbers that fit their fields, fields with room for their numbers, and the lines they are laid out in.
use Rattle.std.specs.Prelude.{◌≡◌, true, false, List, [], ◌∷◌, ℕ, suc, ◌+◌, ◌^◌, ◌≤◌, ◌<◌, ℤ, nat_abs, length}
use Rattle.laws.specs.Cut.{over}
use Rattle.record_table.specs.TypedSets.{header_lines, kind58}
use Rattle.walk.specs.declared.Due.{Due}
use Rattle.walk.specs.declared.Place.TheVariants.{Typed}
use Rattle.walk.specs.Due.{due}
use Rattle.walk.specs.Step.{state}
use Rattle.parts.specs.Parts.{closes}
use Rattle.judge.specs.Judge.{going, run_step}
use Rattle.rewriter.specs.Rewriter.{kept_of}
use Rattle.rewriter.specs.Fair.{Fair}
use Rattle.writer.specs.Writer.{decimals_of, fits_at}

-- so many numbers are left of the data of a 58 of this case
abbrev pub data_due : ℕ → ℕ → Due
data_due c left = due kind58 header_lines c left 0

-- a number of each field fits, from number j on
pub data AllFit (c : ℕ) : ℕ → List ℤ → List ℤ → Type 0 where
  none : {j : ℕ} → AllFit c j [] []
  more : {j : ℕ} {x s : ℤ} {xs ss : List ℤ} → nat_abs x < 10 ^ 20 → fits_at c j x s ≡ true → AllFit c (suc j) xs ss → AllFit c j (x ∷ xs) (s ∷ ss)

pub record Roomy (w : ℕ) : Type 0 where
  pub most : w ≤ 20
  pub digits : decimals_of w ≤ 17
  pub room : decimals_of w + 7 ≤ w

-- lines that stand within the rules, are no delimiters and are kept as they are
pub data Neat : List (List ℕ) → Type 0 where
  none : Neat []
  more : {l : List ℕ} {ls : List (List ℕ)} → Fair l → closes l ≡ false → kept_of l ≡ l → Neat ls → Neat (l ∷ ls)

-- so many lines are judged from one state to another
pub record Ran (c left n : ℕ) (ls : List (List ℕ)) : Type 0 where
  pub neat : Neat ls
  pub run : over run_step (going (state (Typed (data_due c left)) 1) n) ls ≡ going (state (Typed (data_due c 0)) 1) (n + length ls)
