-- A set of an accepted file by the numbers that the code finds.
use Rattle.std.specs.Prelude.{◌≡◌, true, List, [], ◌∷◌, ℕ, suc, ◌+◌, ◌-◌, ◌<◌, ◌≤◌, length}
use Rattle.layout.specs.Columns.{line_of}
use Rattle.layout.specs.Layout.{fields_of}
use Rattle.record_table.specs.TypedSets.{header_lines}
use Rattle.parts.specs.Parts.{Part, dataset_of, line_start, past_of, through_of, is_function}
use Rattle.parts.specs.Function.{part_case, count_of, stored_of, data_start}
use Rattle.parts.specs.Padding.{padding_of}
use Rattle.parts.specs.Set.{remaining, Standing, Somewhere}
use Rattle.lister.specs.declared.DataForm.{DataForm}
use Rattle.lister.specs.declared.Function.{Function}
use Rattle.lister.specs.declared.Listed.{Listed}

abbrev pub listed : ℕ → ℕ → ℕ → ℕ → ℕ → ℕ → ℕ → ℕ → Listed
listed n v c at e d k t = record { lines = n; number = v; count = c; first = at; past = e; values = d; padding = k; through = t }

-- a set
unfoldable pub listed_of : Part → Listed
listed_of p = listed p.lines (dataset_of p) (count_of p) p.bytes (past_of p) (data_start p) (padding_of p) (through_of p)

-- the first of sets
unfoldable pub listed_first : List Part → Listed
listed_first [] = listed 0 0 0 0 0 0 0 0
listed_first (p ∷ ps) = listed_of p

-- its row
unfoldable pub row_of : Listed → List ℕ
row_of l = (l.lines + 1) ∷ l.number ∷ l.count ∷ l.first ∷ l.past ∷ l.values ∷ l.padding ∷ []

-- what line 7 of a 58 declares, and where its data lines begin
unfoldable pub data_form_of : Part → DataForm
data_form_of p = record { case = part_case p; count = count_of p; values = data_start p }

-- what the lines of a 58 say of it
unfoldable pub function_of : Part → Function
function_of p = record { count = count_of p; values = data_start p; padding = padding_of p; past = past_of p; lines = length p.body }

-- a 58 of one of the eight cases, with some value, and as many lines as hold its numbers
pub record Complete (p : Part) : Type 0 where
  pub eight : part_case p < 8
  pub some : 0 < stored_of p
  pub lines : length p.body ≡ header_lines + suc (line_of (fields_of (part_case p)) (stored_of p - 1))

-- each 58 of these sets is one
pub data AllComplete : List Part → Type 0 where
  none : AllComplete []
  more : {p : Part} {ps : List Part} → (is_function p ≡ true → Complete p) → AllComplete ps → AllComplete (p ∷ ps)

-- such a 58 of a file, whose lines begin at a byte
pub record At58 (file : List ℕ) (body : ℕ) : Type 0 where
  pub part : Part
  pub others : List Part
  pub stands : Somewhere file part others
  pub function : is_function part ≡ true
  pub complete : Complete part
  pub begins : body ≡ line_start part 0

-- the numbers of a row are small, where the file has at most so many bytes
pub record Small (most : ℕ) (l : Listed) : Type 0 where
  pub past : l.past ≤ most
  pub lines : l.lines < l.past
  pub first : l.first ≤ l.past
  pub values : l.values ≤ l.past
  pub padding : l.padding ≤ 6

-- the next set of a file from the byte at on, which n lines come before; l is what is found of it
pub record Next (file : List ℕ) (n at : ℕ) (l : Listed) : Type 0 where
  pub part : Part
  pub others : List Part
  pub sets : remaining file n at ≡ part ∷ others
  pub found : l ≡ listed_of part
  pub stands : Standing file n at part others
  pub onward : at < l.past
  pub within : l.past ≤ length file
  pub lines : l.through ≤ l.past
  pub rest : others ≡ remaining file l.through l.past
  pub complete : AllComplete others
