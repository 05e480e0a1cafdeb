-- What document 01's table and C-14 say of replies.
use Rattle.std.specs.Prelude.{◌≡◌, List, ◌⊎◌, ℕ, ◌+◌, ◌≤◌}
use Rattle.judge.specs.declared.Reply.{Reply}
use Rattle.judge.specs.Judge.{reply, reply_at}
use Rattle.judge.specs.Refusal.{LineNumber}
use Rattle.lister.specs.Lister.{list_reply}
use Rattle.reader.specs.Reader.{stored_number, value_of}
use Rattle.values.specs.Values.{all_reply}
use Rattle.rewriter.specs.Rewriter.{rewrite_reply}

-- the judge's replies to a file of so many lines, each with its LF
pub data InTable (lines : ℕ) : Reply → Type 0 where
  accepted : InTable lines (reply 0 lines)
  -- "file too long", "no set in the file and no bad line"
  too_long : InTable lines (reply 1 0)
  no_set : InTable lines (reply 16 0)
  -- 2 to 15, 24 and 25: a line, which can be one past the last, and one of its 80 columns, or for 2 any
  line : (n p c : ℕ) → LineNumber n → 1 ≤ p → p ≤ lines + 1 → 1 ≤ c → ((n ≡ 2 → ⊥) → c ≤ 80) → c ≤ 16777216 → InTable lines (reply_at n p c)

-- the refusal of one of so many lines, in one of its 80 columns, or for 2 any
pub record OfLine (lines : ℕ) (r : Reply) : Type 0 where
  pub number : LineNumber r.number
  pub from : 1 ≤ r.place
  pub last : r.place ≤ lines
  pub column : 1 ≤ r.column
  pub eighty : (r.number ≡ 2 → ⊥) → r.column ≤ 80

-- a burst's answers after bytes with so many finished lines: 127 "so far", 1, or the refusal of one of them; 20 and 23 are of the record lent (`Burst`)
pub data BurstInTable (lines : ℕ) : Reply → Type 0 where
  so_far : BurstInTable lines (reply 127 lines)
  too_long : BurstInTable lines (reply 1 0)
  line : (r : Reply) → OfLine lines r → BurstInTable lines r

-- a refusal that names no line
abbrev pub OtherNumber : ℕ → Type 0
OtherNumber n = (n ≡ 1) ⊎ ((16 ≤ n) × (n ≤ 23))

-- any call's reply. "Every refusal of a line now carries the column too .. Any other reply of number and place carries 0."
pub data Replied : Reply → Type 0 where
  line : (n p c : ℕ) → LineNumber n → 1 ≤ p → 1 ≤ c → Replied (reply_at n p c)
  -- no refusal, with the answer; 19 with "its index"; any other, with 0
  answered : (p : ℕ) → Replied (reply 0 p)
  unfit : (p : ℕ) → Replied (reply 19 p)
  other : (n : ℕ) → OtherNumber n → Replied (reply n 0)

-- what the calls on a file answer, for any question and any room
pub record CallsInTable (bytes : List ℕ) (k i room : ℕ) : Type 0 where
  pub lister : Replied (list_reply bytes room)
  pub number : Replied (stored_number bytes k i).reply
  pub value : Replied (value_of bytes k i).reply
  pub all : Replied (all_reply bytes k room)
  pub rewriter : Replied (rewrite_reply bytes room)
