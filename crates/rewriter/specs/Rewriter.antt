-- The rewriter (01, "Rewriter": "LF ends, no blanks at line ends, no lines outside sets, delimiters and dataset numbers spelled plainly;
-- all else keeps its spelling"; 02, C-13: padding is
-- "dropped by the rewriter"). Its reply and the lent buffer afterwards, for every string of bytes.
use Rattle.std.specs.Prelude.{true, List, [], ◌∷◌, ◌++◌, ℕ, zero, suc, ◌+◌, ◌/◌, ◌%◌, ltb, eqb, length, take, drop}
use Rattle.laws.specs.Choice.{pick}
use Rattle.text.specs.Text.{trimmed}
use Rattle.line.specs.Line.{columns}
use Rattle.parts.specs.Parts.{Part, parts_of, dataset_of}
use Rattle.parts.specs.Function.{part_case, stored_of}
use Rattle.parts.specs.Padding.{counted_past}
use Rattle.output.specs.Output.{ended}
use Rattle.judge.specs.Judge.{judged, reply}
use Rattle.judge.specs.declared.Reply.{Reply}

-- the last digit of a number, a blank where the number is 0
unfoldable pub digit_or_blank : ℕ → ℕ
digit_or_blank v = pick (eqb v 0) 32 (48 + v % 10)

-- a number right-aligned in so many columns, with blanks before its first digit; 0 is only blanks, and of a number too long its last digits
-- stand, zeros too
unfoldable pub plain_in : ℕ → ℕ → List ℕ
plain_in zero v = []
plain_in (suc w) v = plain_in w (v / 10) ++ (digit_or_blank v ∷ [])

-- "dataset numbers spelled plainly", in six columns
unfoldable pub plain_number : ℕ → List ℕ
plain_number v = plain_in 6 v

-- "delimiters .. spelled plainly", with the LF
abbrev pub delimiter_line : List ℕ
delimiter_line = 32 ∷ 32 ∷ 32 ∷ 32 ∷ 45 ∷ 49 ∷ 10 ∷ []

-- "no blanks at line ends": what is kept of a line, given by the bytes before its LF
unfoldable pub kept_of : List ℕ → List ℕ
kept_of l = trimmed (columns true l)

-- what is kept of lines, each with its LF
unfoldable pub lines_text : List (List ℕ) → List ℕ
lines_text [] = []
lines_text (l ∷ ls) = ended (kept_of l) ++ lines_text ls

-- the lines that open a set of this number
unfoldable pub head_text : ℕ → List ℕ
head_text v = delimiter_line ++ ended (plain_number v)

-- lines, the last of them cut to so many bytes
unfoldable pub cut_last : ℕ → List (List ℕ) → List (List ℕ)
cut_last k [] = []
cut_last k (l ∷ []) = take k l ∷ []
cut_last k (l ∷ m ∷ ls) = l ∷ cut_last k (m ∷ ls)

-- the lines of a set without padding: a 58's last line is cut behind its last counted number
unfoldable pub unpadded : Part → List (List ℕ)
unpadded p = pick (eqb (stored_of p) 0) p.body (cut_last (counted_past (part_case p) (stored_of p)) p.body)

-- a set of this number and these lines
unfoldable pub set_text : ℕ → List (List ℕ) → List ℕ
set_text v ls = head_text v ++ (lines_text ls ++ delimiter_line)

unfoldable pub rewritten_set : Part → List ℕ
rewritten_set p = set_text (dataset_of p) (unpadded p)

-- sets one after the other: "no lines outside sets"
unfoldable pub rewritten : List Part → List ℕ
rewritten [] = []
rewritten (p ∷ ps) = rewritten_set p ++ rewritten ps

-- a file rewritten
abbrev pub rewritten_file : List ℕ → List ℕ
rewritten_file file = rewritten (parts_of file)

-- the reply, with so much room: the judge's refusal; 20, "output too short"; otherwise "the length"
unfoldable pub rewrite_reply : List ℕ → ℕ → Reply
rewrite_reply file room =
    pick (ltb 0 (judged file).number) (judged file)
    (pick (ltb room (length (rewritten_file file))) (reply 20 0) (reply 0 (length (rewritten_file file))))

-- the buffer afterwards: as it was where the reply is a refusal, otherwise the text, "past which it keeps its contents"
unfoldable pub rewrite_out : List ℕ → List ℕ → List ℕ
rewrite_out file out =
    pick (eqb (rewrite_reply file (length out)).number 0) (rewritten_file file ++ drop (length (rewritten_file file)) out) out
