-- The data lines that the writer lays out, line by line, and the header as it is lent with those lines in a file.
use Rattle.std.specs.Prelude.{List, [], ◌∷◌, ◌++◌, ℕ, zero, suc, ℤ, length, drop}
use Rattle.decimal.specs.Decimal.{field_text}
use Rattle.rewriter.specs.Rewriter.{head_text, delimiter_line}
use Rattle.writer.specs.Writer.{decimals_of, data_text}

-- the fields of one line, of these widths, as far as there are numbers
unfoldable pub fields_text : List ℕ → List ℤ → List ℤ → List ℕ
fields_text [] xs ss = []
fields_text (w ∷ ws) [] ss = []
fields_text (w ∷ ws) (x ∷ xs) [] = []
fields_text (w ∷ ws) (x ∷ xs) (s ∷ ss) = field_text w (decimals_of w) x s ++ fields_text ws xs ss

-- at most so many data lines
unfoldable pub data_lines : ℕ → List ℕ → List ℤ → List ℤ → List (List ℕ)
data_lines zero ws xs ss = []
data_lines (suc k) ws [] ss = []
data_lines (suc k) ws (x ∷ xs) ss = fields_text ws (x ∷ xs) ss ∷ data_lines k ws (drop (length ws) (x ∷ xs)) (drop (length ws) ss)

-- a file of one set: the header as it is lent, and the data lines
unfoldable pub lent_file : List ℕ → ℕ → List ℤ → List ℤ → List ℕ
lent_file header c xs ss = head_text 58 ++ (header ++ (data_text c 0 xs ss ++ delimiter_line))
