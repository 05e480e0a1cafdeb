-- The writer (01, "Writer": "It is lent eleven header lines, .. i64 coefficients, i16 scales and the output, and lays out one whole set in
-- the rewriter's form").
use Rattle.std.specs.Prelude.{Bool, ◌&&◌, List, [], ◌∷◌, ◌++◌, ℕ, suc, ltb, eqb, ℤ, length, get_or, drop}
use Rattle.laws.specs.Choice.{pick}
use Rattle.laws.specs.Cut.{cut}
use Rattle.decimal.specs.Decimal.{fits, field_text}
use Rattle.layout.specs.Columns.{field_of}
use Rattle.layout.specs.Layout.{layout_of, fields_of}
use Rattle.judge.specs.declared.Reply.{Reply}
use Rattle.judge.specs.Judge.{reply}
use Rattle.header.specs.Header.{header_of}
use Rattle.rewriter.specs.Rewriter.{head_text, lines_text, delimiter_line}

-- the decimals of a field of this width: E13.5, and E20.12 for any other (`decimals_printed`: they are 001's)
unfoldable pub decimals_of : ℕ → ℕ
decimals_of w = pick (eqb w 13) 5 12

-- the width of stored number j's field: "those of field j mod n"
unfoldable pub width_at : ℕ → ℕ → ℕ
width_at c j = get_or (layout_of c).widths (field_of (fields_of c) j) 0

-- whether number j of a case can be written exactly
unfoldable pub fits_at : ℕ → ℕ → ℤ → ℤ → Bool
fits_at c j x s = fits (decimals_of (width_at c j)) x s

-- "its index": of numbers from index j on, the first that can't be written exactly; past the last where all can
unfoldable pub first_unfit : ℕ → ℕ → List ℤ → List ℤ → ℕ
first_unfit c j [] ss = j
first_unfit c j (x ∷ xs) [] = j
first_unfit c j (x ∷ xs) (s ∷ ss) = pick (fits_at c j x s) (first_unfit c (suc j) xs ss) j

-- the LF after number j: where the next one stands in a line's first field, and after the last ("all full but the last, which holds only
-- what is left")
abbrev pub line_end : ℕ → ℕ → List ℤ → List ℕ
line_end c j [] = 10 ∷ []
line_end c j (x ∷ xs) = pick (eqb (field_of (fields_of c) (suc j)) 0) (10 ∷ []) []

-- the data lines from number j on: "each number is laid into its own columns"
unfoldable pub data_text : ℕ → ℕ → List ℤ → List ℤ → List ℕ
data_text c j [] ss = []
data_text c j (x ∷ xs) [] = []
data_text c j (x ∷ xs) (s ∷ ss) = field_text (width_at c j) (decimals_of (width_at c j)) x s ++ (line_end c j xs ++ data_text c (suc j) xs ss)

-- "one whole set in the rewriter's form"
unfoldable pub written_set : List ℕ → ℕ → List ℤ → List ℤ → List ℕ
written_set header c xs ss = head_text 58 ++ (lines_text (cut header).lines ++ (data_text c 0 xs ss ++ delimiter_line))

-- the reply with a header that passes, with so much room: "22, 19, 20", otherwise the length
unfoldable pub laid_reply : List ℕ → ℕ → ℕ → List ℤ → List ℤ → ℕ → Reply
laid_reply header c stored xs ss room =
    pick (eqb (length xs) stored && eqb (length ss) stored)
    (pick (ltb (first_unfit c 0 xs ss) (length xs)) (reply 19 (first_unfit c 0 xs ss))
    (pick (ltb room (length (written_set header c xs ss))) (reply 20 0) (reply 0 (length (written_set header c xs ss)))))
    (reply 22 0)

-- the reply: "the header's" refusal first
unfoldable pub write_reply : List ℕ → List ℤ → List ℤ → ℕ → Reply
write_reply header xs ss room =
    pick (ltb 0 (header_of header).reply.number) (header_of header).reply
    (laid_reply header (header_of header).case (header_of header).stored xs ss room)

-- the buffer afterwards: as it was where the reply is a refusal, otherwise the set, "past which it keeps its contents"
unfoldable pub write_out : List ℕ → List ℤ → List ℤ → List ℕ → List ℕ
write_out header xs ss out =
    pick (eqb (write_reply header xs ss (length out)).number 0)
    (written_set header (header_of header).case xs ss ++ drop (length (written_set header (header_of header).case xs ss)) out) out
