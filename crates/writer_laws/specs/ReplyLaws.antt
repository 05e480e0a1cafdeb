-- What it takes for the writer to answer a length.
use Rattle.std.specs.Prelude.{◌≡◌, Bool, true, false, ◌&&◌, List, [], ◌∷◌, ℕ, suc, ◌+◌, ◌≤◌, ltb, ℤ, length}
use Rattle.std.proofs.Math.Path.{refl}
use Rattle.std.proofs.Common.{sym, ◌∙◌, arith, ltb-true, ltb-false, eqb-true}
use Rattle.std.proofs.Math.Dec.{eqb}
use Rattle.laws.specs.Choice.{pick}
use Rattle.laws.specs.ChoiceLaws.{and_left, and_right}
use Rattle.judge.specs.declared.Reply.{Reply}
use Rattle.judge.specs.Judge.{reply}
use Rattle.header.specs.Header.{header_of}
use Rattle.writer.specs.Writer.{fits_at, first_unfit, written_set, laid_reply, write_reply}
use Rattle.writer_laws.specs.DataRun.{AllFit}
use Rattle.writer_laws.specs.Reply.{Coefficients, Answered, more}

-- all numbers fit where no index is found
pub all_fit : (c j : ℕ) (xs ss : List ℤ) → Coefficients xs → length xs ≡ length ss → j + length xs ≤ first_unfit c j xs ss → AllFit c j xs ss
unfolding first_unfit
all_fit c j [] [] k e h = AllFit.none
all_fit c j [] (s ∷ ss) k e h = absurd (omega arith)
all_fit c j (x ∷ xs) [] k e h = absurd (omega arith)
all_fit c j (x ∷ xs) (s ∷ ss) (more n k) e h = by (fits_at c j x s) refl h (all_fit c (suc j) xs ss k (omega arith))
  where
    by : (t : Bool) → fits_at c j x s ≡ t → j + suc (length xs) ≤ pick t (first_unfit c (suc j) xs ss) j
        → (suc j + length xs ≤ first_unfit c (suc j) xs ss → AllFit c (suc j) xs ss) → AllFit c j (x ∷ xs) (s ∷ ss)
    by true q g ih = AllFit.more {x = x} (omega arith) q (ih (omega arith))
    by false q g ih = absurd (omega arith)

module _ (header : List ℕ) (xs ss : List ℤ) (room : ℕ) where
  abbrev c : ℕ
  c = (header_of header).case

  abbrev n : ℕ
  n = (header_of header).stored

  abbrev text : List ℕ
  text = written_set header c xs ss

  -- the tests of the reply, in order
  abbrev tests : Bool → Bool → Bool → Bool → Reply
  tests bad same unfit long =
      pick bad (header_of header).reply
      (pick same (pick unfit (reply 19 (first_unfit c 0 xs ss)) (pick long (reply 20 0) (reply 0 (length text)))) (reply 22 0))

  by_tests : (bad same unfit long : Bool) → ltb 0 (header_of header).reply.number ≡ bad → eqb (length xs) n && eqb (length ss) n ≡ same
      → ltb (first_unfit c 0 xs ss) (length xs) ≡ unfit → ltb room (length text) ≡ long → write_reply header xs ss room ≡ tests bad same unfit long
      → (tests bad same unfit long).number ≡ 0 → Answered header xs ss room
  by_tests true same unfit long a b d e r z = absurd (omega (arith, ltb-true 0 (header_of header).reply.number a))
  by_tests false false unfit long a b d e r z = absurd (omega arith)
  by_tests false true true long a b d e r z = absurd (omega arith)
  by_tests false true false true a b d e r z = absurd (omega arith)
  by_tests false true false false a b d e r z =
      let x : length xs ≡ n = eqb-true _ _ (and_left (eqb (length xs) n) (eqb (length ss) n) b) in
      let y : length ss ≡ n = eqb-true _ _ (and_right (eqb (length xs) n) (eqb (length ss) n) b) in
      record {
        passes = omega (arith, ltb-false 0 (header_of header).reply.number a);
        stored = x;
        same = x ∙ sym y;
        fit = ltb-false (first_unfit c 0 xs ss) (length xs) d;
        short = ltb-false room (length text) e;
        reply_is = r;
      }

  pub answered : (write_reply header xs ss room).number ≡ 0 → Answered header xs ss room
  unfolding write_reply laid_reply
  answered z =
      by_tests (ltb 0 (header_of header).reply.number) (eqb (length xs) n && eqb (length ss) n) (ltb (first_unfit c 0 xs ss) (length xs)) (ltb room (length text)) refl refl refl refl refl z

  -- all numbers fit, where an i64 can hold the coefficients
  pub answered_fit : Coefficients xs → Answered header xs ss room → AllFit c 0 xs ss
  answered_fit k a = all_fit c 0 xs ss k a.same (omega (arith, a.fit))
