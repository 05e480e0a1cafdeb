-- The lister's reply and rows for every string of bytes (01, "Lister": "Six u32 a set: opening line, dataset number, declared count,
-- first byte, byte past the closing line, first byte of the data lines, bytes from 0. The third and sixth are 0 unless it is a 58.
-- Later places keep their contents. It answers the number of sets."; 02, C-13: "The lister's row grows to seven numbers, the seventh the
-- padding numbers").
use Rattle.std.specs.Prelude.{List, [], ◌∷◌, ◌++◌, ℕ, suc, ◌*◌, ltb, eqb, length, drop}
use Rattle.laws.specs.Choice.{pick}
use Rattle.judge.specs.declared.Reply.{Reply}
use Rattle.judge.specs.Judge.{judged, reply}
use Rattle.parts.specs.Parts.{Part, parts_of, dataset_of, past_of}
use Rattle.parts.specs.Function.{count_of, data_start}
use Rattle.parts.specs.Padding.{padding_of}

-- how many places a set has in the rows
abbrev pub row_numbers : ℕ
row_numbers = 7

-- the numbers of a set
unfoldable pub entry : Part → List ℕ
entry p = suc p.lines ∷ dataset_of p ∷ count_of p ∷ p.bytes ∷ past_of p ∷ data_start p ∷ padding_of p ∷ []

unfoldable pub rows_of : List Part → List ℕ
rows_of [] = []
rows_of (p ∷ ps) = entry p ++ rows_of ps

-- "The lister, reader and rewriter judge first"; 17 for fewer than seven places a set (C-13: "17 counts seven places")
unfoldable pub list_reply : List ℕ → ℕ → Reply
list_reply file places =
    pick (ltb 0 (judged file).number) (judged file)
    (pick (ltb places (row_numbers * length (parts_of file))) (reply 17 0) (reply 0 (length (parts_of file))))

-- the rows afterwards: as they were where the reply is a refusal, otherwise those of the sets; "Later places keep their contents"
unfoldable pub list_rows : List ℕ → List ℕ → List ℕ
list_rows file rows =
    pick (eqb (list_reply file (length rows)).number 0) (rows_of (parts_of file) ++ drop (row_numbers * length (parts_of file)) rows) rows
