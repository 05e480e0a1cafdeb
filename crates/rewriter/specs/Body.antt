-- A set by where it stands, as the code goes over its lines.
use Rattle.std.specs.Prelude.{List, [], ◌∷◌, ◌++◌, ℕ, suc, ◌+◌, leb, length, take, drop}
use Rattle.laws.specs.Choice.{pick}
use Rattle.laws.specs.Cut.{cut, line_len}
use Rattle.parts.specs.declared.Extent.{Extent}
use Rattle.parts.specs.declared.Counted.{Counted}
use Rattle.parts.specs.Counted.{counted_at}
use Rattle.output.specs.Output.{ended}
use Rattle.rewriter.specs.Rewriter.{delimiter_line, kept_of, lines_text, head_text}

-- of lines that begin at the byte at, those that begin before the byte stop
unfoldable pub lines_to : ℕ → ℕ → List (List ℕ) → List (List ℕ)
lines_to stop at [] = []
lines_to stop at (l ∷ ls) = pick (leb stop at) [] (l ∷ lines_to stop (at + suc (length l)) ls)

-- the lines of a file from the byte from on that begin before the byte stop
unfoldable pub lines_in : ℕ → ℕ → List ℕ → List (List ℕ)
lines_in stop from file = lines_to stop from (cut (drop from file)).lines

-- what is kept of them
abbrev pub body_text : ℕ → ℕ → List ℕ → List ℕ
body_text stop from file = lines_text (lines_in stop from file)

-- what is kept of the first k bytes of the line that begins at the byte at
unfoldable pub cut_text : ℕ → ℕ → List ℕ → List ℕ
cut_text k at file = kept_of (take k (take (line_len (drop at file)) (drop at file)))

-- the same with its LF; nothing where no line begins there before the byte stop
unfoldable pub last_text : ℕ → ℕ → ℕ → List ℕ → List ℕ
last_text k stop at file = pick (leb stop at) [] (ended (cut_text k at file))

-- the set that stands where e says, with these columns of its last line
abbrev pub front_by : List ℕ → Extent → Counted → List ℕ
front_by file e k = body_text k.line e.body file

abbrev pub last_by : List ℕ → Extent → Counted → List ℕ
last_by file e k = last_text k.past e.closing k.line file

abbrev pub set_by : List ℕ → Extent → Counted → List ℕ
set_by file e k = head_text e.number ++ (front_by file e k ++ (last_by file e k ++ delimiter_line))

-- with those that count
unfoldable pub set_at : List ℕ → Extent → List ℕ
set_at file e = set_by file e (counted_at file e)
