-- How a run of the judge over raw lines comes out, by the reader.
use Rattle.std.specs.Prelude.{◌≡◌, true, List, map, ℕ, ◌+◌, ◌<◌, length}
use Rattle.laws.specs.Cut as Cut
use Rattle.line.specs.Line.{columns}
use Rattle.judge.specs.declared.Reply.{Reply}
use Rattle.judge.specs.Judge.{Run, going, refused, run_step}
use Rattle.line_laws.specs.Ends.{AllPass}
use Rattle.judge_laws.specs.ListReader.{Reading, bad, read_lines}
use Rattle.judge_laws.specs.Image.{Standing, image}

-- the judge's run over raw lines
abbrev pub run_over : Run → List (List ℕ) → Run
run_over = Cut.over run_step

-- the reading of the columns of raw lines
abbrev pub read_over : Reading → List (List ℕ) → Reading
read_over r ls = read_lines r (map (columns true) ls)

-- a run over raw lines, from the image of a reading after k lines: all pass and are read, or it is refused by some number
pub data Ran (ls : List (List ℕ)) (r : Reading) (k : ℕ) : Run → Type 0 where
  through : AllPass ls → Standing (read_over r ls) → Ran ls r k (going (image (read_over r ls)) (k + length ls))
  stopped : {p : Reply} → 0 < p.number → (AllPass ls → read_over r ls ≡ bad) → Ran ls r k (refused p)
