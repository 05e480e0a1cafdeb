-- What a header that passes leaves due: the lines of a 58 so far, judged as they are judged in a file.
use Rattle.std.specs.Prelude.{◌≡◌, List, [], false, ℕ, ◌+◌, ◌≤◌, ◌<◌, length, get_or}
use Rattle.laws.specs.Cut.{cut, over}
use Rattle.line.specs.declared.Refusal.{Refusal}
use Rattle.record_table.specs.TypedSets.{header_lines, before_axes, line_seven, kind58}
use Rattle.record.specs.Check.{row_refusal}
use Rattle.record.specs.Declares.{case_in, stored_in}
use Rattle.walk.specs.declared.Due.{Due}
use Rattle.walk.specs.declared.Place.TheVariants.{Typed}
use Rattle.walk.specs.Due.{row_due, after}
use Rattle.walk.specs.Step.{state}
use Rattle.std.specs.Prelude.{Ok, Err}
use Rattle.judge.specs.Judge.{going, run_step, line_step}
use Rattle.header.specs.Header.{Answer}
use Rattle.header.specs.Header.{opened, header_of, header_step, header_end}
use Rattle.parts.specs.Parts.{columns_in, closes}
use Rattle.rewriter.specs.Fair.{Inner, Fair}

-- what line 7, given by its 80 columns, says: the case, and how many numbers are stored
pub record Says (line : List ℕ) (d : Due) : Type 0 where
  pub case : d.case ≡ case_in line
  pub left : d.left ≡ stored_in line

-- eleven lines, none of them a delimiter, each with its LF, after which the numbers of the data lines are due
pub record Passed (header : List ℕ) : Type 0 where
  pub due : Due
  pub rest : (cut header).rest ≡ []
  pub lines : length (cut header).lines ≡ header_lines
  pub inner : Inner (cut header).lines
  pub run : (n : ℕ) → over run_step (going opened n) (cut header).lines ≡ going (state (Typed due) 1) (n + header_lines)
  pub kind : due.kind ≡ kind58
  pub at : due.at ≡ header_lines
  pub second : due.second ≡ 0
  pub case : due.case ≡ (header_of header).case
  pub left : due.left ≡ (header_of header).stored
  pub seventh : Says (columns_in (get_or (cut header).lines line_seven [])) due
  pub case_below : (header_of header).case < 8
  pub stored_some : 1 ≤ (header_of header).stored
  pub stored_most : (header_of header).stored ≤ 196608

-- a case, and how many numbers are stored: at most three for each of 65,536 values
pub record Bounds (c m : ℕ) : Type 0 where
  pub eight : c < 8
  pub some : 1 ≤ m
  pub most : m ≤ 196608

-- what is due after n lines of a 58: line 7 has given its case and how many numbers it stores
pub record Stood (n : ℕ) (d : Due) : Type 0 where
  pub kind : d.kind ≡ kind58
  pub at : d.at ≡ n
  pub second : d.second ≡ 0
  pub bounds : before_axes ≤ n → Bounds d.case d.left

-- a line where a record is due: it is taken, or refused with a number
pub record Taken (d : Due) (l : List ℕ) : Type 0 where
  pub fair : Fair l
  pub inside : closes l ≡ false
  pub row : (row_refusal (row_due d) (columns_in l)).number ≡ 0
  pub step : line_step (state (Typed d) 1) l ≡ Ok (state (Typed (after d (columns_in l))) 1)

pub data Met (d : Due) (l : List ℕ) : Type 0 where
  taken : Taken d l → Met d l
  stopped : (f : Refusal) → line_step (state (Typed d) 1) l ≡ Err f → 0 < f.number → Met d l

-- the lines of a header that passes, from line n on
abbrev pub ended : Due → ℕ → List (List ℕ) → List ℕ → Answer
ended d n ls rest = header_end (over header_step (going (state (Typed d) 1) n) ls) rest
