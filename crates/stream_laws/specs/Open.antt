-- Bytes cut into lines, and others after them; what a record keeps of such a text.
use Rattle.std.specs.Prelude.{List, [], ◌∷◌, ◌++◌, ℕ}
use Rattle.laws.specs.Cut.{Text, text, over}
use Rattle.judge.specs.Judge.{Run, run_step}
use Rattle.stream.specs.Stream.{open_of, Seen, kept}

-- lines and a rest, then others: the first of these ends the rest
abbrev pub text_then : List (List ℕ) → List ℕ → List (List ℕ) → List ℕ → Text
text_then ls r [] r' = text ls (r ++ r')
text_then ls r (m ∷ ms) r' = text (ls ++ ((r ++ m) ∷ ms)) r'

-- the run over a text's finished lines, with its rest
abbrev pub kept_text : Run → Text → ℕ → Seen
kept_text r t n = kept (over run_step r t.lines) (open_of t.rest) n
