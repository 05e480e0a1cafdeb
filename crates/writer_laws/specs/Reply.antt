-- Coefficients that the writer can be given, and what it takes for it to answer a length.
use Rattle.std.specs.Prelude.{◌≡◌, List, [], ◌∷◌, ℕ, ◌≤◌, ℤ, nat_abs, length}
use Rattle.judge.specs.Judge.{reply}
use Rattle.header.specs.Header.{header_of}
use Rattle.writer.specs.Writer.{first_unfit, written_set, write_reply}

-- coefficients of a size that an i64 can have
pub data Coefficients : List ℤ → Type 0 where
  none : Coefficients []
  more : {x : ℤ} {xs : List ℤ} → nat_abs x ≤ 9223372036854775808 → Coefficients xs → Coefficients (x ∷ xs)

-- the header passes, and the numbers are as many as it calls for, fit and have room
pub record Answered (header : List ℕ) (xs ss : List ℤ) (room : ℕ) : Type 0 where
  pub passes : (header_of header).reply.number ≡ 0
  pub stored : length xs ≡ (header_of header).stored
  pub same : length xs ≡ length ss
  pub fit : length xs ≤ first_unfit (header_of header).case 0 xs ss
  pub short : length (written_set header (header_of header).case xs ss) ≤ room
  pub reply_is : write_reply header xs ss room ≡ reply 0 (length (written_set header (header_of header).case xs ss))
