-- Every writing of a list of sets is read, as that list.
use Rattle.std.specs.Prelude.{◌≡◌, true, ℕ, ◌+◌, ◌≤◌, ◌<◌, length}
use Rattle.std.proofs.Math.Path.{refl, ap}
use Rattle.std.proofs.Common.{◌∙◌, arith, lt-ltb, length-append}
use mathlib.Core.List.{List, [], ◌∷◌, ◌++◌, append_assoc, append-nil}
use Rattle.text.specs.Text.{TextIn}
use Rattle.text.proofs.TextLaws.{trimmed_complete}
use Rattle.line.specs.Line.{filled}
use Rattle.line.specs.LineLaws.{filled_length}
use Rattle.delimiter.specs.Kind.{Delimiter, NumberLine, number_line}
use Rattle.delimiter.proofs.KindLaws.{is_delimiter_complete, dataset_number_complete, delimiter_not_blank}
use Rattle.field.specs.Item.{Item, text}
use Rattle.record_laws.specs.LineReadingLaws.{written_complete}
use Rattle.record.specs.Written.{Written}
use Rattle.walk.specs.Due.{may_close, may_continue, row_due, after_items}
use Rattle.walk.specs.declared.Due.{Due}
use Rattle.theory.specs.Sets.{Set}
use Rattle.theory.specs.Proper.{Inside, BlankLines, PlainLines, SetLines, Lines}
use Rattle.judge_laws.specs.ListReader.{Reading, outside, number, plain, typed, closed, opened, read_line, read_lines}
use Rattle.line_laws.specs.LineTestsLaws.{blank_line_complete, inside_complete}
use Rattle.judge_laws.specs.RowFitsLaws.{row_due_readable}
use Rattle.judge_laws.specs.TypedRun.{TypedRun}
use Rattle.judge_laws.specs.TypedRunLaws.{typed_lines_run}

-- lines in two parts
read_lines_append : (r : Reading) (a b : List (List ℕ)) → read_lines r (a ++ b) ≡ read_lines (read_lines r a) b
unfolding read_lines
read_lines_append r [] b = refl
read_lines_append r (cs ∷ a) b = read_lines_append (read_line r cs) a b

-- Blank lines.

blank_lines_read : {css : List (List ℕ)} (acc : List Set) → BlankLines css → read_lines (outside acc) css ≡ outside acc
unfolding read_lines
blank_lines_read acc BlankLines.none = refl
blank_lines_read acc (BlankLines.more b r) = rw (blank_line_complete b) (blank_lines_read acc r)

-- The delimiter that opens a set, and its number line.

opens : (acc : List Set) (cs : List ℕ) → length acc < 4096 → Delimiter (filled cs) → read_line (outside acc) cs ≡ number acc
opens acc cs h d = rw (delimiter_not_blank (filled cs) d, is_delimiter_complete d, lt-ltb (length acc) 4096 h) refl

number_line_some : {v : ℕ} {l : List ℕ} → NumberLine v l → 1 ≤ v
number_line_some (number_line field bl n s lo hi b) = lo

numbers : (acc : List Set) (v : ℕ) (cs : List ℕ) → NumberLine v (filled cs) → read_line (number acc) cs ≡ opened acc v
numbers acc v cs n = rw (dataset_number_complete n, lt-ltb 0 v (number_line_some n)) refl

-- The lines of a set and the delimiter that closes it.

-- a line of a plain set
plain_line : (acc : List Set) (v : ℕ) (c : List (List Item)) (t cs : List ℕ) → TextIn t cs → Inside cs
    → read_line (plain acc v c) cs ≡ plain acc v (c ++ ((text t ∷ []) ∷ []))
plain_line acc v c t cs i n = rw (inside_complete cs n, trimmed_complete i) refl

-- a line of a typed set, written by the row due
typed_line : (acc : List Set) (v : ℕ) (c : List (List Item)) (d : Due) (is : List Item) (cs : List ℕ) → may_continue d ≡ true
    → Written (row_due d) is (filled cs) → Inside cs → read_line (typed acc v c d) cs ≡ typed acc v (c ++ (is ∷ [])) (after_items d is)
typed_line acc v c d is cs k w n =
    let o = written_complete (filled cs) (filled_length cs) (row_due d) is (row_due_readable d) w in
    rw (inside_complete cs n, k, o.0, o.1) refl

module _ (acc : List Set) (v : ℕ) (last : List ℕ) (later : List (List ℕ)) (e : Delimiter (filled last)) where
  -- the closing delimiter
  plain_closes : (c : List (List Item)) → read_line (plain acc v c) last ≡ closed acc v c
  plain_closes c = rw (is_delimiter_complete e) refl

  typed_closes : (c : List (List Item)) (d : Due) → may_close d ≡ true → read_line (typed acc v c d) last ≡ closed acc v c
  typed_closes c d k = rw (is_delimiter_complete e, k) refl

  -- all of a plain set's lines, and its closing delimiter
  plain_read : {iss : List (List Item)} {body : List (List ℕ)} (c : List (List Item)) → PlainLines iss body
      → read_lines (plain acc v c) (body ++ (last ∷ later)) ≡ read_lines (closed acc v (c ++ iss)) later
  unfolding read_lines
  plain_read c PlainLines.none = ap (λ (r : Reading). read_lines r later) (plain_closes c) ∙ rw append-nil refl
  plain_read c (PlainLines.more {t} {cs} {css = body} i n l) =
      ap (λ (r : Reading). read_lines r (body ++ (last ∷ later))) (plain_line acc v c t cs i n) ∙ plain_read (c ++ ((text t ∷ []) ∷ [])) l ∙ rw append_assoc refl

  -- all of a typed set's lines, and its closing delimiter
  typed_read : {d : Due} {iss : List (List Item)} {body : List (List ℕ)} (c : List (List Item)) → TypedRun d iss body
      → read_lines (typed acc v c d) (body ++ (last ∷ later)) ≡ read_lines (closed acc v (c ++ iss)) later
  unfolding read_lines
  typed_read c (TypedRun.closed {d} k) = ap (λ (r : Reading). read_lines r later) (typed_closes c d k) ∙ rw append-nil refl
  typed_read c (TypedRun.more {d} {is} {cs} {css = body} k w n r) =
      ap (λ (s : Reading). read_lines s (body ++ (last ∷ later))) (typed_line acc v c d is cs k w n) ∙ typed_read (c ++ (is ∷ [])) r ∙ rw append_assoc refl

-- a set from its number line on
set_read : {s : Set} {body : List (List ℕ)} (acc : List Set) (last : List ℕ) (later : List (List ℕ)) → Delimiter (filled last) → SetLines s body
    → read_lines (opened acc s.number) (body ++ (last ∷ later)) ≡ read_lines (outside (acc ++ (s ∷ []))) later
set_read acc last later e (SetLines.typed {n} {iss} {css} t l) = rw t (typed_read acc n last later e [] (typed_lines_run n iss css t l))
set_read acc last later e (SetLines.plain {n} {iss} {css} t l) = rw t (plain_read acc n last later e [] l)

-- a writing of sets is read as those sets, after those read before
pub reader_complete : {ss : List Set} {css : List (List ℕ)} (acc : List Set) → Lines ss css → length acc + length ss ≤ 4096
    → read_lines (outside acc) css ≡ outside (acc ++ ss)
unfolding read_lines
reader_complete acc (Lines.end b) h = blank_lines_read acc b ∙ rw append-nil refl
reader_complete acc (Lines.more {s} {ss} first numbered last before body later b d n l e w) h =
    let k : length (acc ++ (s ∷ [])) + length ss ≤ 4096 = rw length-append (omega arith) in
    let inner : List (List ℕ) = body ++ (last ∷ later) in
    read_lines_append (outside acc) before (first ∷ numbered ∷ inner)
    ∙ ap (λ (r : Reading). read_lines r (first ∷ numbered ∷ inner)) (blank_lines_read acc b)
    ∙ ap (λ (r : Reading). read_lines r (numbered ∷ inner)) (opens acc first (omega arith) d)
    ∙ ap (λ (r : Reading). read_lines r inner) (numbers acc s.number numbered n)
    ∙ set_read acc last later e l ∙ reader_complete (acc ++ (s ∷ [])) w k ∙ rw append_assoc refl
