-- A reader that carries the list of sets so far, line by line: what the judge's state is the image of. Lines are given by their columns.
use Rattle.std.specs.Prelude.{List, [], ◌∷◌, ◌++◌, ℕ, zero, suc, ltb, length}
use Rattle.laws.specs.Choice.{pick}
use Rattle.text.specs.Blank.{all_blank}
use Rattle.text.specs.Text.{trimmed}
use Rattle.line.specs.Line.{filled}
use Rattle.delimiter.specs.Kind.{is_delimiter, dataset_number}
use Rattle.field.specs.Item.{Item, text}
use Rattle.record_table.specs.TypedSets.{kind_of, is_typed}
use Rattle.record.specs.Check.{items_of, row_refusal}
use Rattle.walk.specs.declared.Due.{Due}
use Rattle.walk.specs.Due.{opening, may_close, may_continue, row_due, after}
use Rattle.theory.specs.Sets.{Set, set}

-- outside sets; after an opening delimiter; in a plain or a typed set of a number, with its lines so far; or refused
pub data Reading : Type 0 where
  outside : List Set → Reading
  number : List Set → Reading
  plain : List Set → ℕ → List (List Item) → Reading
  typed : List Set → ℕ → List (List Item) → Due → Reading
  bad : Reading

-- a set is read
abbrev pub closed : List Set → ℕ → List (List Item) → Reading
closed acc v iss = outside (acc ++ (set v iss ∷ []))

-- the number line of a set is read
abbrev pub opened : List Set → ℕ → Reading
opened acc v = pick (is_typed v) (typed acc v [] (opening (kind_of v))) (plain acc v [])

-- a line of a typed set, where its refusal's number is 0
abbrev pub typed_on : ℕ → Reading → Reading
typed_on zero r = r
typed_on (suc n) r = bad

abbrev pub read_line : Reading → List ℕ → Reading
read_line (outside acc) cs =
    pick (all_blank (filled cs)) (outside acc)
    (pick (is_delimiter (filled cs)) (pick (ltb (length acc) 4096) (number acc) bad) bad)
read_line (number acc) cs = pick (ltb 0 (dataset_number (filled cs))) (opened acc (dataset_number (filled cs))) bad
read_line (plain acc v iss) cs = pick (is_delimiter (filled cs)) (closed acc v iss) (plain acc v (iss ++ ((text (trimmed cs) ∷ []) ∷ [])))
read_line (typed acc v iss d) cs =
    pick (is_delimiter (filled cs)) (pick (may_close d) (closed acc v iss) bad)
    (pick (may_continue d)
    (typed_on (row_refusal (row_due d) (filled cs)).number
    (typed acc v (iss ++ (items_of (row_due d).fields 0 (filled cs) ∷ [])) (after d (filled cs)))) bad)
read_line bad cs = bad

-- the lines of a file, one after the other
unfoldable pub read_lines : Reading → List (List ℕ) → Reading
read_lines r [] = r
read_lines r (cs ∷ css) = read_lines (read_line r cs) css
