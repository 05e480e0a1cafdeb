-- A stored number and a value as the bytes that C is given, or 20 where it lends too few.
use Rattle.std.specs.Prelude.{◌≡◌, List, [], ◌∷◌, ℕ, ◌*◌, ◌<◌, ◌≤◌, Float, length}
use Rattle.std.proofs.Math.Path.{refl}
use Rattle.std.proofs.Common.{arith, length-append}
use borrow.Author.Tests.{lt-ltb, le-ltb}
use Rattle.exact.specs.Bits.{bits_of}
use Rattle.output.specs.Output.{bytes_of}
use Rattle.judge.specs.Judge.{reply}
use Rattle.reader.specs.Reader.{Said, said, Shown, stored_number, value_of}
use Rattle.host.specs.Packed.{word}
use Rattle.host.specs.Answer.{number_bytes, value_bytes, number_shown, number_answer, value_answer, reply_for, bytes_after}
use Rattle.theorems.specs.Answers.{FilledBy}

-- an answer with its bytes, by the room that is lent
module _ (s : Said ℕ) where
  pub filled : (place : ℕ) (text out : List ℕ) → s ≡ said 0 place text → length text ≤ length out → FilledBy text place (reply_for s (length out)) out (bytes_after s out)
  unfolding reply_for bytes_after
  filled place text out e h = let room = le-ltb (length out) (length text) h in record { answer = rw (e, room) refl; laid = rw (e, room) refl }

  pub short : (place room : ℕ) (text : List ℕ) → s ≡ said 0 place text → room < length text → reply_for s room ≡ word (reply 20 0)
  unfolding reply_for
  short place room text e h = rw (e, lt-ltb room (length text) h) refl

-- how many bytes there are
pub twenty : (x : Shown) → length (number_bytes x) ≡ 20
unfolding number_bytes bytes_of
twenty x = refl

eight : (n : ℕ) → length (bytes_of 8 n) ≡ 8
unfolding bytes_of
eight n = refl

eight_each : (xs : List Float) → length (value_bytes xs) ≡ 8 * length xs
unfolding value_bytes
eight_each [] = refl
eight_each (x ∷ xs) = omega (arith, length-append (bytes_of 8 (bits_of x)) (value_bytes xs), eight (bits_of x), eight_each xs)

module _ (bytes : List ℕ) (k : ℕ) where
  module _ (j : ℕ) (x : Shown) (e : stored_number bytes k j ≡ said 0 0 (x ∷ [])) where
    number_said : number_answer (stored_number bytes k j) ≡ said 0 20 (number_bytes x)
    unfolding number_shown
    number_said = rw e refl

    pub number_answers : (out : List ℕ) → 20 ≤ length out
        → FilledBy (number_bytes x) 20 (reply_for (number_answer (stored_number bytes k j)) (length out)) out (bytes_after (number_answer (stored_number bytes k j)) out)
    number_answers out h = filled (number_answer (stored_number bytes k j)) 20 (number_bytes x) out number_said (omega (arith, twenty x))

    pub number_short : (room : ℕ) → room < 20 → reply_for (number_answer (stored_number bytes k j)) room ≡ word (reply 20 0)
    number_short room h = short (number_answer (stored_number bytes k j)) 20 room (number_bytes x) number_said (omega (arith, twenty x))

  module _ (i n : ℕ) (xs : List Float) (e : value_of bytes k i ≡ said 0 n xs) where
    value_said_lem : value_answer (value_of bytes k i) ≡ said 0 n (value_bytes xs)
    value_said_lem = rw e refl

    pub value_answers : (out : List ℕ) → 8 * length xs ≤ length out
        → FilledBy (value_bytes xs) n (reply_for (value_answer (value_of bytes k i)) (length out)) out (bytes_after (value_answer (value_of bytes k i)) out)
    value_answers out h = filled (value_answer (value_of bytes k i)) n (value_bytes xs) out value_said_lem (omega (arith, eight_each xs))

    pub value_short : (room : ℕ) → room < 8 * length xs → reply_for (value_answer (value_of bytes k i)) room ≡ word (reply 20 0)
    value_short room h = short (value_answer (value_of bytes k i)) n room (value_bytes xs) value_said_lem (omega (arith, eight_each xs))
