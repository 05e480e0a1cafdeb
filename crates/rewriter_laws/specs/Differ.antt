-- Two texts that differ in padding alone (02, C-13: "the full line's columns past the counted numbers"), line ends aside. Stated from
-- texts and a list of sets alone. A line is given by its columns, its end left out.
use Rattle.std.specs.Prelude.{◌≡◌, List, [], ◌∷◌, ◌++◌, ℕ, take}
use Rattle.line.specs.Line.{filled}
use Rattle.delimiter.specs.Kind.{Delimiter}
use Rattle.theory.specs.Sets.{Set}
use Rattle.theory.specs.Proper.{BlankLines, Ended}
use Rattle.line_laws.specs.NoDelimiter.{NoDelimiter}
use Rattle.rewriter_laws.specs.Form.{counted_columns}

-- the same lines, but for what stands past the first k columns of the last
pub data SameBut (k : ℕ) : List (List ℕ) → List (List ℕ) → Type 0 where
  none : SameBut k [] []
  last : {a b : List ℕ} → take k a ≡ take k b → SameBut k (a ∷ []) (b ∷ [])
  more : {a b c d : List ℕ} {old new : List (List ℕ)} → a ≡ b → SameBut k (c ∷ old) (d ∷ new) → SameBut k (a ∷ c ∷ old) (b ∷ d ∷ new)

-- the lines of two files, the same but for what stands past the counted columns of each set's last: of a set that is no 58 all 80 count
pub data SameFile : List Set → List (List ℕ) → List (List ℕ) → Type 0 where
  end : {css : List (List ℕ)} → BlankLines css → SameFile [] css css
  more : {s : Set} {ss : List Set} (first number last : List ℕ) (before a b old new : List (List ℕ))
      → BlankLines before → Delimiter (filled first) → NoDelimiter a → NoDelimiter b → Delimiter (filled last)
      → SameBut (counted_columns s) a b → SameFile ss old new
      → SameFile (s ∷ ss) (before ++ (first ∷ number ∷ (a ++ (last ∷ old)))) (before ++ (first ∷ number ∷ (b ++ (last ∷ new))))

-- the same of two texts
pub record PaddingAside (sets : List Set) (x y : List ℕ) : Type 0 where
  pub old : List (List ℕ)
  pub new : List (List ℕ)
  pub old_ends : Ended old x
  pub new_ends : Ended new y
  pub same : SameFile sets old new
