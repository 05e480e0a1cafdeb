-- What a file is rewritten to (01, "Rewriter": "LF ends, no blanks at line ends, no lines outside sets, delimiters and dataset numbers
-- spelled plainly; all else keeps its spelling"; 02, C-13: padding is "dropped by the rewriter"). Stated from texts and a list of sets
-- alone: nothing here runs the rewriter. A line is given by its columns, its end left out.
use Rattle.std.specs.Prelude.{◌≡◌, List, [], ◌∷◌, ◌++◌, ℕ, ◌≤◌, eqb, length, take}
use Rattle.laws.specs.Choice.{pick}
use Rattle.text.specs.Blank.{Blanks}
use Rattle.text.specs.Text.{Unpadded, TextIn}
use Rattle.text.specs.Parts.{Digits}
use Rattle.line.specs.Line.{Allowed, filled}
use Rattle.delimiter.specs.Kind.{Delimiter}
use Rattle.theory.specs.Sets.{Set}
use Rattle.line_laws.specs.NoDelimiter.{NoDelimiter}
use Rattle.theory.specs.Proper.{BlankLines, Ended}
use Rattle.parts.specs.Padding.{counted_past}
use Rattle.parts_laws.specs.Declares.{set_case}
use Rattle.parts_laws.specs.Stored.{stored_count}

-- The rewritten form.

-- "delimiters .. spelled plainly": four blanks, `-1`, and no more
abbrev pub delimiter_spelled : List ℕ
delimiter_spelled = 32 ∷ 32 ∷ 32 ∷ 32 ∷ 45 ∷ 49 ∷ []

-- "dataset numbers spelled plainly": blanks, and then digits that mean the number, the first of them not 0, and no sign
pub data Plainly : ℕ → List ℕ → Type 0 where
  plainly : {v d : ℕ} (bl ds : List ℕ) → Blanks bl → (d ≡ 48 → ⊥) → Digits 0 (d ∷ ds) v → Plainly v (bl ++ (d ∷ ds))

-- "no blanks at line ends"
pub data Trimmed : List (List ℕ) → Type 0 where
  none : Trimmed []
  more : {cs : List ℕ} {css : List (List ℕ)} → Unpadded cs → Trimmed css → Trimmed (cs ∷ css)

-- how many columns of a set's last line count: of a 58's those up to its last counted number, of any other's all 80
unfoldable pub counted_columns : Set → ℕ
counted_columns s = pick (eqb (stored_count s) 0) 80 (counted_past (set_case s) (stored_count s))

-- no padding: the last line ends with its last counted column at the latest
pub data EndsBy (k : ℕ) : List (List ℕ) → Type 0 where
  none : EndsBy k []
  last : {cs : List ℕ} → length cs ≤ k → EndsBy k (cs ∷ [])
  more : {cs ds : List ℕ} {css : List (List ℕ)} → EndsBy k (ds ∷ css) → EndsBy k (cs ∷ ds ∷ css)

-- the lines of a file, "no lines outside sets": for each set in order a delimiter, its number in six columns, its lines and a delimiter
pub data PlainSets : List Set → List (List ℕ) → Type 0 where
  none : PlainSets [] []
  more : {s : Set} {ss : List Set} (number : List ℕ) (body after : List (List ℕ))
      → Plainly s.number number → length number ≡ 6 → NoDelimiter body → Trimmed body → EndsBy (counted_columns s) body → PlainSets ss after
      → PlainSets (s ∷ ss) (delimiter_spelled ∷ number ∷ (body ++ (delimiter_spelled ∷ after)))

-- "LF ends": each line is its columns, within the rules on bytes and columns, and an LF
pub data LfEnded : List (List ℕ) → List ℕ → Type 0 where
  none : LfEnded [] []
  more : {css : List (List ℕ)} (cs bytes : List ℕ) → Allowed cs → length cs ≤ 80 → LfEnded css bytes → LfEnded (cs ∷ css) (cs ++ (10 ∷ bytes))

-- a text is in rewritten form, of these sets: its lines are as above
pub record InForm (sets : List Set) (bytes : List ℕ) : Type 0 where
  pub columns : List (List ℕ)
  pub ends : LfEnded columns bytes
  pub plain : PlainSets sets columns

-- Spellings.

-- the own lines of the sets of a file, set by set: those between a set's number line and its closing delimiter
pub data Own : List (List (List ℕ)) → List (List ℕ) → Type 0 where
  end : {css : List (List ℕ)} → BlankLines css → Own [] css
  more : {bodies : List (List (List ℕ))} (first number last : List ℕ) (before body after : List (List ℕ))
      → BlankLines before → Delimiter (filled first) → NoDelimiter body → Delimiter (filled last) → Own bodies after
      → Own (body ∷ bodies) (before ++ (first ∷ number ∷ (body ++ (last ∷ after))))

-- the same of a text
pub record OwnLines (bodies : List (List (List ℕ))) (bytes : List ℕ) : Type 0 where
  pub columns : List (List ℕ)
  pub ends : Ended columns bytes
  pub own : Own bodies columns

-- lines that are the same but for blanks at their ends, and but for what stands past the first k columns of the last: line by line one
-- text, and then any blanks
pub data SameLines (k : ℕ) : List (List ℕ) → List (List ℕ) → Type 0 where
  none : SameLines k [] []
  last : {t a b : List ℕ} → TextIn t (take k a) → TextIn t (take k b) → SameLines k (a ∷ []) (b ∷ [])
  more : {t a b c d : List ℕ} {old new : List (List ℕ)} → TextIn t a → TextIn t b → SameLines k (c ∷ old) (d ∷ new)
      → SameLines k (a ∷ c ∷ old) (b ∷ d ∷ new)

-- the same set by set, padding aside
pub data SameSets : List Set → List (List (List ℕ)) → List (List (List ℕ)) → Type 0 where
  none : SameSets [] [] []
  more : {s : Set} {ss : List Set} {a b : List (List ℕ)} {old new : List (List (List ℕ))} → SameLines (counted_columns s) a b → SameSets ss old new
      → SameSets (s ∷ ss) (a ∷ old) (b ∷ new)

-- "all else keeps its spelling": the sets of two texts have the same own lines, set by set and line by line, but for blanks at line ends,
-- padding and the line ends
pub record KeepsSpellings (sets : List Set) (old new : List ℕ) : Type 0 where
  pub before : List (List (List ℕ))
  pub after : List (List (List ℕ))
  pub in_old : OwnLines before old
  pub in_new : OwnLines after new
  pub same : SameSets sets before after
