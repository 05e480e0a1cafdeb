-- A set of a file, read from its own bytes: "a host lists once and then asks each set with `file + row[3]`, `row[4] - row[3]` and set 1".
use Rattle.std.specs.Prelude.{◌≡◌, List, [], ◌∷◌, ◌++◌, map, ℕ, suc, ◌+◌, ◌-◌, ◌≤◌, length, take, drop}
use Rattle.judge.specs.Judge.{judged, reply}
use Rattle.parts.specs.Parts.{Part, part, parts_of, dataset_of, past_of}
use Rattle.parts.specs.Function.{count_of, data_start}
use Rattle.parts.specs.Padding.{padding_of}
use Rattle.lister.specs.Lister.{row_numbers, list_reply, list_rows}
use Rattle.reader.specs.Reader.{Said, Shown, shown, stored_number, value_of}
use Rattle.values.specs.Values.{all_values}
use Rattle.rewriter.specs.Rewriter.{rewritten_set, rewritten_file}
use Rattle.theory.specs.Sets.{Set}
use Rattle.theory.specs.Proper.{Proper}
use Rattle.parts_laws.specs.Text.{lines_of}

-- the bytes of a set, from its row's fourth number to its fifth
unfoldable pub alone_in : List ℕ → Part → List ℕ
alone_in bytes p = take (past_of p - p.bytes) (drop p.bytes bytes)

-- all sets of a file, each by its own bytes
unfoldable pub sets_alone : List ℕ → List (List ℕ)
sets_alone bytes = map (alone_in bytes) (parts_of bytes)

-- texts one after the other
unfoldable pub together : List (List ℕ) → List ℕ
together [] = []
together (t ∷ ts) = t ++ together ts

-- a set that nothing comes before
abbrev pub at_start : Part → Part
at_start p = part 0 0 p.opening p.number p.body p.closing

-- its row, lines counted from its opening line and bytes from its first byte
unfoldable pub row_alone : Part → List ℕ
row_alone p = 1 ∷ dataset_of p ∷ count_of p ∷ 0 ∷ (past_of p - p.bytes) ∷ (data_start p - p.bytes) ∷ padding_of p ∷ []

-- a stored number as it is shown where b bytes more come before it; a refusal is the same
abbrev pub shown_behind : ℕ → Shown → Shown
shown_behind b x = shown (b + x.first) (b + x.past) x.sign x.coefficient x.below x.size

abbrev pub said_behind : ℕ → Said Shown → Said Shown
said_behind b x = record { reply = x.reply; shown = map (shown_behind b) x.shown }

-- the bytes of set k of a file, from 0, which is s of the list and part p of the file, are a file of their own
pub record Alone (bytes alone : List ℕ) (k : ℕ) (s : Set) (p : Part) : Type 0 where
  -- a proper writing of the list of just that set, accepted at the last of its lines
  pub proper : Proper (s ∷ []) alone
  pub judge : judged alone ≡ reply 0 (length (lines_of p))
  pub parts : parts_of alone ≡ at_start p ∷ []
  -- the lister's one row
  pub listed : (rows : List ℕ) → row_numbers ≤ length rows → (list_reply alone (length rows) ≡ reply 0 1) × (list_rows alone rows ≡ row_alone p ++ drop row_numbers rows)
  -- every question, the refused ones too, is answered as in the whole file
  pub number : (j : ℕ) → stored_number bytes (suc k) j ≡ said_behind p.bytes (stored_number alone 1 j)
  pub value : (i : ℕ) → value_of bytes (suc k) i ≡ value_of alone 1 i
  pub all_values_lem : all_values bytes (suc k) ≡ all_values alone 1
  -- and it is rewritten as in the whole file
  pub rewritten : rewritten_file alone ≡ rewritten_set p
