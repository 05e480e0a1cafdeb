-- A delimiter and a number line as they are usually spelled: six columns.
use Rattle.std.specs.Prelude.{◌≡◌, List, [], ◌∷◌, ℕ, length}
use Rattle.integer.specs.Integer.{integer_of}
use Rattle.delimiter.specs.Kind.{positive}

-- no blank after it
abbrev pub plain_delimiter : List ℕ
plain_delimiter = 32 ∷ 32 ∷ 32 ∷ 32 ∷ 45 ∷ 49 ∷ []

-- six columns that are read as this number
pub record PlainNumber (v : ℕ) (cs : List ℕ) : Type 0 where
  pub six : length cs ≡ 6
  pub read : v ≡ positive (integer_of cs)
