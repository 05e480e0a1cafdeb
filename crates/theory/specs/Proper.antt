-- The proper writings of a list of sets (01, "Lines and sets": "A proper writing of a list is, for each set in order, any number of
-- blank lines, a delimiter, the number line with its number, its lines and a delimiter, and after the last set any number of
-- blank lines, within the rules above on file length, bytes, line ends, columns and the number of sets"). Stated from the list
-- alone: nothing here runs the judge or a reader. A line is given by its columns, its end left out.
use Rattle.std.specs.Prelude.{◌≡◌, true, false, List, [], ◌∷◌, ◌++◌, ℕ, ◌≤◌, length}
use Rattle.text.specs.Blank.{Blanks}
use Rattle.text.specs.Text.{TextIn}
use Rattle.line.specs.Line.{Allowed, filled}
use Rattle.delimiter.specs.Kind.{Delimiter, NumberLine}
use Rattle.field.specs.Item.{Item, text}
use Rattle.record_table.specs.Row.{Row}
use Rattle.record_table.specs.TypedSets.{is_typed}
use Rattle.record.specs.Written.{Written}
use Rattle.theory.specs.Sets.{Set, set}
use Rattle.theory.specs.Due.{set_rows}

-- "No line between a set's number line and its closing delimiter is a delimiter"
abbrev pub Inside : List ℕ → Type 0
Inside cs = Delimiter (filled cs) → ⊥

-- the lines of a typed set, each written by its row
pub data TypedLines : List Row → List (List Item) → List (List ℕ) → Type 0 where
  none : TypedLines [] [] []
  more : {r : Row} {is : List Item} {cs : List ℕ} {rs : List Row} {iss : List (List Item)} {css : List (List ℕ)}
      → Written r is (filled cs) → Inside cs → TypedLines rs iss css → TypedLines (r ∷ rs) (is ∷ iss) (cs ∷ css)

-- the lines of a plain set: "A plain set's line stands as listed, then any blanks"
pub data PlainLines : List (List Item) → List (List ℕ) → Type 0 where
  none : PlainLines [] []
  more : {t cs : List ℕ} {iss : List (List Item)} {css : List (List ℕ)}
      → TextIn t cs → Inside cs → PlainLines iss css → PlainLines ((text t ∷ []) ∷ iss) (cs ∷ css)

-- a set's lines between its number line and its closing delimiter
pub data SetLines : Set → List (List ℕ) → Type 0 where
  typed : {n : ℕ} {iss : List (List Item)} {css : List (List ℕ)} → is_typed n ≡ true → TypedLines (set_rows n iss) iss css → SetLines (set n iss) css
  plain : {n : ℕ} {iss : List (List Item)} {css : List (List ℕ)} → is_typed n ≡ false → PlainLines iss css → SetLines (set n iss) css

-- "any number of blank lines"
pub data BlankLines : List (List ℕ) → Type 0 where
  none : BlankLines []
  more : {cs : List ℕ} {css : List (List ℕ)} → Blanks cs → BlankLines css → BlankLines (cs ∷ css)

-- the lines of a file
pub data Lines : List Set → List (List ℕ) → Type 0 where
  end : {css : List (List ℕ)} → BlankLines css → Lines [] css
  more : {s : Set} {ss : List Set} (first number last : List ℕ) (before body after : List (List ℕ))
      → BlankLines before → Delimiter (filled first) → NumberLine s.number (filled number)
      → SetLines s body → Delimiter (filled last) → Lines ss after
      → Lines (s ∷ ss) (before ++ (first ∷ number ∷ (body ++ (last ∷ after))))

-- "Each line ends in LF or CR LF and has at most 80 columns, its end not counted", of bytes allowed
pub data Ended : List (List ℕ) → List ℕ → Type 0 where
  none : Ended [] []
  lf : {css : List (List ℕ)} (cs bytes : List ℕ) → Allowed cs → length cs ≤ 80 → Ended css bytes → Ended (cs ∷ css) (cs ++ (10 ∷ bytes))
  crlf : {css : List (List ℕ)} (cs bytes : List ℕ) → Allowed cs → length cs ≤ 80 → Ended css bytes → Ended (cs ∷ css) (cs ++ (13 ∷ 10 ∷ bytes))

-- "A file has at most 16,777,216 bytes"; "A file has 1 to 4,096 sets"
pub record Proper (sets : List Set) (bytes : List ℕ) : Type 0 where
  pub columns : List (List ℕ)
  pub ends : Ended columns bytes
  pub lines : Lines sets columns
  pub some : 1 ≤ length sets
  pub most : length sets ≤ 4096
  pub short : length bytes ≤ 16777216
