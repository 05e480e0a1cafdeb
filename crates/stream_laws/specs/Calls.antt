-- A file that arrives through the calls for a host (02, C-11): bursts, one after the other, on the numbers and the line that it lends.
use Rattle.std.specs.Prelude.{◌≡◌, List, [], ◌∷◌, ℕ, length}
use Rattle.judge.specs.declared.Reply.{Reply}
use Rattle.stream_c.specs.Lent.{Burst}

-- the buffers ns and bs are brought to ns' and bs' by these bursts, in order, each with a reply in this form; a buffer keeps its length
pub data Calls {A : Type 0} (form : Reply → A) : List ℕ → List ℕ → List (List ℕ) → List ℕ → List ℕ → Type 0 where
  none : {ns bs : List ℕ} → Calls form ns bs [] ns bs
  more : {ns bs ns₁ bs₁ ns' bs' b : List ℕ} {bursts : List (List ℕ)} {r : A} → Burst form ns bs b ns₁ bs₁ r → length ns₁ ≡ length ns → length bs₁ ≡ length bs
      → Calls form ns₁ bs₁ bursts ns' bs' → Calls form ns bs (b ∷ bursts) ns' bs'
