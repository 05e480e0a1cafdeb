-- Lines of at most 80 columns each (01, "Lines and sets": "has at most 80 columns, its end not counted").
use Rattle.std.specs.Prelude.{List, [], ◌∷◌, ℕ, ◌≤◌, length}

pub data Short : List (List ℕ) → Type 0 where
  none : Short []
  more : {cs : List ℕ} {css : List (List ℕ)} → length cs ≤ 80 → Short css → Short (cs ∷ css)
