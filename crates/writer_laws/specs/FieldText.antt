-- Texts with no blank at their end.
use Rattle.std.specs.Prelude.{List, ℕ, ◌<◌, length}
use Rattle.text.specs.Text.{Unpadded}

-- a text with a last byte that is no blank
pub record Ends (l : List ℕ) : Type 0 where
  pub unpadded : Unpadded l
  pub some : 0 < length l
