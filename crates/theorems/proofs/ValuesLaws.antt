-- All values of a 58 of a proper writing, asked at once.
use Rattle.std.specs.Prelude.{◌≡◌, List, map, ℕ, suc, ◌*◌, ◌<◌, ◌≤◌, Float, length}
use Rattle.std.proofs.Math.Path.{refl}
use Rattle.std.proofs.Common.{sym, ◌∙◌, lt-ltb, le-ltb}
use native.Mathlib.Omega.{arith}
use Rattle.std.proofs.lemmas.List.{length-map}
use Rattle.exact.specs.Bits.{bits_of}
use Rattle.layout.specs.Layout.{numbers_of}
use Rattle.parts.specs.Parts.{Part}
use Rattle.judge.specs.Judge.{reply}
use Rattle.reader.specs.Reader.{said, refused, sets_from, value_of}
use Rattle.reader.specs.ReaderLaws.{start_most}
use Rattle.values.specs.Values.{all_values, all_reply, all_places}
use Rattle.theory.specs.Sets.{Set}
use Rattle.theory.specs.Proper.{Proper}
use Rattle.parts_laws.specs.Declares.{declared, set_case}
use Rattle.parts_laws.specs.Stored.{stored_count}
use Rattle.parts_laws.specs.CaseLaws.{case_eight, declared_most}
use Rattle.theorems.specs.Stands.{At58}
use Rattle.theorems.specs.Answers.{InTurn, Filled, value_said, all_said}
use Rattle.judge_laws.specs.JudgeLaws.{accepted_zero}
use Rattle.theorems.specs.ListerLaws.{set_holds, set_somewhere}
use Rattle.theorems.proofs.AnswersLaws.{all_by_list, all_asked, said_each, said_refused}
use Rattle.theorems.proofs.ReaderLaws.{reader_values}

-- the call, by what it says
laid_out : (bytes : List ℕ) (k n : ℕ) (xs : List Float) (out : List ℕ) → all_values bytes k ≡ said 0 n xs → length xs ≡ n → n ≤ length out
    → Filled (map bits_of xs) (all_reply bytes k (length out)) out (all_places bytes k out)
unfolding all_reply all_places
laid_out bytes k n xs out e l h =
    let room = le-ltb (length out) n h in
    let many : length (map bits_of xs) ≡ n = length-map xs bits_of ∙ l in
    record { answer = rw (e, l, room, many) refl; laid = rw (e, l, room, many) refl }

pub all_short : (bytes : List ℕ) (k n room : ℕ) (xs : List Float) → all_values bytes k ≡ said 0 n xs → room < length xs → all_reply bytes k room ≡ reply 20 0
unfolding all_reply
all_short bytes k n room xs e h = rw (e, lt-ltb room (length xs) h) refl

module _ {sets : List Set} {bytes : List ℕ} (p : Proper sets bytes) {k : ℕ} {s : Set} {q : Part} (a : At58 sets bytes k s q) where
  pub all_of_list : all_values bytes (suc k) ≡ all_said s
  unfolding sets_from
  all_of_list = all_asked bytes (suc k) (accepted_zero p) ∙ rw a.at.stands (all_by_list bytes a.at.others (set_somewhere p a.at) (set_holds p a.at) a.number)

  pub all_in_turn : (n : ℕ) (xs : List Float) → all_values bytes (suc k) ≡ said 0 n xs → InTurn bytes k s n xs
  unfolding stored_count value_said
  all_in_turn n xs h =
      let w = said_each s n xs (sym all_of_list ∙ h) in
      record { counted = w.counted; long = w.long; value = λ i l. reader_values p a i l ∙ w.value i l }

  pub all_answers : (n : ℕ) (xs : List Float) (out : List ℕ) → all_values bytes (suc k) ≡ said 0 n xs → n ≤ length out
      → Filled (map bits_of xs) (all_reply bytes (suc k) (length out)) out (all_places bytes (suc k) out)
  all_answers n xs out h room = laid_out bytes (suc k) n xs out h (all_in_turn n xs h).long room

  pub all_refused_one : (m l : ℕ) → 0 < m → all_values bytes (suc k) ≡ refused m l → (i : ℕ) × ((i < declared s) × (value_of bytes (suc k) i ≡ refused m l))
  all_refused_one m l z h =
      let w = said_refused s m l z (sym all_of_list ∙ h) in
      (w.0, (w.1.0, reader_values p a w.0 w.1.0 ∙ w.1.1))

  pub stored_few : stored_count s ≤ 196608
  unfolding stored_count
  stored_few =
      let h = set_holds p a.at in
      let m : declared s ≤ 65536 = declared_most h.lines a.number in
      let n : declared s * numbers_of (set_case s) ≤ declared s * 3 = start_most (declared s) (set_case s) _ (case_eight h.lines a.number) refl in
      omega arith
