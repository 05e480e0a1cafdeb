-- What the writer lays out from a header and numbers.
use Rattle.std.specs.Prelude.{◌≡◌, List, [], ◌∷◌, true, ℕ, ◌<◌, ℤ, pos, nat_abs, length, get_or}
use Rattle.laws.specs.Cut.{cut}
use Rattle.record_table.specs.Records.{record_of, no_record}
use Rattle.record_table.specs.TypedSets.{sequence, header_lines, kind58}
use Rattle.record.specs.Written.{Written}
use Rattle.parts.specs.Parts.{columns_in}
use Rattle.header.specs.Header.{header_of}
use Rattle.real.specs.Real.{below_zero}
use Rattle.decimal.specs.Decimal.{SameNumber}
use Rattle.reader.specs.Reader.{said, shown, stored_number}
use Rattle.rewriter.specs.Rewriter.{rewritten_file}
use Rattle.rewriter_laws.specs.Form.{InForm}
use Rattle.writer.specs.Writer.{fits_at, written_set}
use Rattle.writer_laws.specs.DataLines.{lent_file}
use Rattle.writer_laws.specs.Back.{Back}
use Rattle.theory.specs.Sets.{Set}
use Rattle.theory.specs.Proper.{Proper}
use Rattle.parts_laws.specs.Declares.{set_case}
use Rattle.parts_laws.specs.Stored.{stored_count, stored_item}

-- the text that the writer lays out, in the header's case
abbrev pub written_text : List ℕ → List ℤ → List ℤ → List ℕ
written_text header xs ss = written_set header (header_of header).case xs ss

-- what the writer can lay out: the header passes, coefficients and scales are as many as the numbers it calls for, and each number fits its field
pub record Writable (header : List ℕ) (xs ss : List ℤ) : Type 0 where
  pub passes : (header_of header).reply.number ≡ 0
  pub coefficients : length xs ≡ (header_of header).stored
  pub scales : length ss ≡ (header_of header).stored
  pub fit : (j : ℕ) → j < length xs → fits_at (header_of header).case j (get_or xs j (pos 0)) (get_or ss j (pos 0)) ≡ true

-- the text is a proper writing of one 58, in rewritten form. The items of its first eleven lines are written in the header's lines, which are eleven, each
-- with its LF; the file with those lines as they are lent is a proper writing of the same set, and the text is what that file is rewritten to. The
-- stored numbers are the given ones, index by index: of the same sign, and the same decimal number.
pub record LaidOut (header : List ℕ) (xs ss : List ℤ) : Type 0 where
  pub set : Set
  pub number : set.number ≡ 58
  pub proper : Proper (set ∷ []) (written_text header xs ss)
  pub eleven : length (cut header).lines ≡ header_lines
  pub ended : (cut header).rest ≡ []
  pub items : (i : ℕ) → i < header_lines → Written (record_of (get_or (sequence kind58) i no_record)) (get_or set.lines i []) (columns_in (get_or (cut header).lines i []))
  pub lent : Proper (set ∷ []) (lent_file header (header_of header).case xs ss)
  pub rewritten : rewritten_file (lent_file header (header_of header).case xs ss) ≡ written_text header xs ss
  pub form : InForm (set ∷ []) (written_text header xs ss)
  pub again : rewritten_file (written_text header xs ss) ≡ written_text header xs ss
  pub case : set_case set ≡ (header_of header).case
  pub count : stored_count set ≡ length xs
  pub back : (j : ℕ) → j < length xs → Back (get_or xs j (pos 0)) (get_or ss j (pos 0)) (stored_item set j)

-- the reader's answer for stored number j of a file's first set shows the number x × 10^s
pub record ReadAs (bytes : List ℕ) (j : ℕ) (x s : ℤ) : Type 0 where
  pub first : ℕ
  pub past : ℕ
  pub coefficient : ℕ
  pub scale : ℤ
  pub answer : stored_number bytes 1 j ≡ said 0 0 (shown first past (below_zero x) coefficient (below_zero scale) (nat_abs scale) ∷ [])
  pub same : SameNumber (nat_abs x) s coefficient scale
