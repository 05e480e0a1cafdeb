-- Two files that every call answers alike, byte places and padding numbers aside.
use Rattle.std.specs.Prelude.{◌≡◌, List, map, ℕ, length, take}
use Rattle.judge.specs.Judge.{judged}
use Rattle.parts.specs.Parts.{Part, parts_of}
use Rattle.reader.specs.Reader.{Said, Shown, shown, stored_number, value_of}
use Rattle.values.specs.Values.{all_reply, all_places}
use Rattle.rewriter.specs.Rewriter.{rewrite_reply, rewrite_out}
use Rattle.lister.specs.Lister.{entry, list_reply}

-- a stored number as it is shown, its byte places aside; a refusal is the same
abbrev pub unplaced : Shown → Shown
unplaced x = shown 0 0 x.sign x.coefficient x.below x.size

abbrev pub said_unplaced : Said Shown → Said Shown
said_unplaced x = record { reply = x.reply; shown = map unplaced x.shown }

pub record SameAnswers (x y : List ℕ) : Type 0 where
  pub judge : judged x ≡ judged y
  -- of each set the opening line, dataset number and declared count; the others are byte places and the padding numbers
  pub lister : (room : ℕ) → list_reply x room ≡ list_reply y room
  pub rows : map (λ (p : Part). take 3 (entry p)) (parts_of x) ≡ map (λ (p : Part). take 3 (entry p)) (parts_of y)
  -- every question of the reader, the refused ones too
  pub number : (k j : ℕ) → said_unplaced (stored_number x k j) ≡ said_unplaced (stored_number y k j)
  pub value : (k i : ℕ) → value_of x k i ≡ value_of y k i
  pub all : (k : ℕ) (out : List ℕ) → (all_reply x k (length out) ≡ all_reply y k (length out)) × (all_places x k out ≡ all_places y k out)
  pub rewriter : (out : List ℕ) → (rewrite_reply x (length out) ≡ rewrite_reply y (length out)) × (rewrite_out x out ≡ rewrite_out y out)
