-- Lines of which none is a delimiter (01, "Lines and sets": "No line inside a set is a delimiter").
use Rattle.std.specs.Prelude.{List, [], ◌∷◌, ℕ}
use Rattle.theory.specs.Proper.{Inside}

pub data NoDelimiter : List (List ℕ) → Type 0 where
  none : NoDelimiter []
  more : {cs : List ℕ} {css : List (List ℕ)} → Inside cs → NoDelimiter css → NoDelimiter (cs ∷ css)
