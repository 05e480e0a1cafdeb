-- What the reader answers of a proper writing: by the list, by the bytes of a number's own columns, and 18 for any other question; and what calls answer
-- of a file that is refused.
use Rattle.std.specs.Prelude.{◌≡◌, List, [], ◌⊎◌, length}
use Rattle.std.proofs.Math.Path.{refl}
use Rattle.std.proofs.Common.{sym, ap, ◌∙◌, inl, inr, arith, lt-ltb}
use Prim.Native.Nat.{ℕ, zero, suc, ◌+◌, ◌*◌, ◌<◌, ◌≤◌}
use Rattle.real.specs.Real.{Real}
use Rattle.real.specs.Real.{real_of}
use Rattle.layout.specs.Layout.{numbers_of}
use Rattle.parts.specs.Parts.{Part}
use Rattle.parts.specs.Function.{first_byte, past_byte}
use Rattle.parts.specs.Set.{Somewhere}
use Rattle.judge.specs.Judge.{judged}
use Rattle.lister.specs.Lister.{list_reply}
use Rattle.values.specs.Values.{all_values}
use Rattle.rewriter.specs.Rewriter.{rewrite_reply}
use Rattle.reader.specs.Reader.{refused, sets_from, shown_of, stored_number, value_of, value_with}
use Rattle.theory.specs.Sets.{Set}
use Rattle.theory.specs.Proper.{Proper}
use Rattle.parts_laws.specs.Holds.{Holds}
use Rattle.parts_laws.specs.Declares.{declared, set_case}
use Rattle.parts_laws.specs.Stored.{stored_count, stored_item}
use Rattle.theorems.specs.Stands.{SetAt, At58}
use Rattle.theorems.specs.Answers.{Answered, NoSuch, AsJudged, real_of_item, value_said, own_bytes}
use Rattle.judge_laws.specs.JudgeLaws.{accepted_zero}
use Rattle.theorems.specs.ListerLaws.{no_parts, set_holds, set_somewhere}
use Rattle.theorems.proofs.AnswersLaws.{value_own, value_with_same, number_answered, number_past, number_other, number_asked, value_answered}
use Rattle.theorems.proofs.AnswersLaws.{value_past, value_other, value_asked, all_other, all_asked, item_own, real_same}

-- a file that is refused
pub judge_first : (bytes : List ℕ) → 0 < (judged bytes).number → (k i room : ℕ) → AsJudged bytes k i room
unfolding list_reply stored_number value_of all_values rewrite_reply
judge_first bytes h k i room =
    let refused-by = lt-ltb 0 (judged bytes).number h in
    record { lister = rw refused-by refl; number = rw refused-by refl; value = rw refused-by refl; all = rw refused-by refl; rewriter = rw refused-by refl }

module _ {sets : List Set} {bytes : List ℕ} (p : Proper sets bytes) where
  -- a question for a set of the list goes to its part
  module _ {k : ℕ} {s : Set} {q : Part} (a : At58 sets bytes k s q) where
    holds : Holds s q
    holds = set_holds p a.at

    there : Somewhere bytes q a.at.others
    there = set_somewhere p a.at

    -- stored number j, by the list
    pub number_of_list : (j : ℕ) → j < stored_count s → stored_number bytes (suc k) j ≡ shown_of (first_byte q j) (past_byte q j) (real_of_item (stored_item s j))
    unfolding sets_from
    number_of_list j l = number_asked bytes (suc k) j (accepted_zero p) ∙ rw a.at.stands (number_answered bytes a.at.others there holds a.number j l)

    pub reader_numbers : (j : ℕ) → j < stored_count s → Answered bytes (suc k) j s q
    reader_numbers j l =
        let x = (item_own bytes a.at.others there holds a.number j l).0 in
        record {
          sign = x.minus;
          coefficient = x.coefficient;
          scale = x.scale;
          answer = number_of_list j l ∙ rw x.item refl;
          item = x.item;
          spelled = x.spelling;
        }

    -- by the bytes of its own columns
    pub number_by_bytes : (j : ℕ) → j < stored_count s → stored_number bytes (suc k) j ≡ shown_of (first_byte q j) (past_byte q j) (real_of (own_bytes bytes q j))
    number_by_bytes j l =
        number_of_list j l ∙ ap (shown_of (first_byte q j) (past_byte q j)) (item_own bytes a.at.others there holds a.number j l).1

    pub reader_values : (i : ℕ) → i < declared s → value_of bytes (suc k) i ≡ value_said s i
    unfolding sets_from
    reader_values i l = value_asked bytes (suc k) i (accepted_zero p) ∙ rw a.at.stands (value_answered bytes a.at.others there holds a.number i l)

    pub value_by_bytes : (i : ℕ) → i < declared s → value_of bytes (suc k) i ≡ value_with (λ (j : ℕ). real_of (own_bytes bytes q j)) (set_case s) i
    unfolding sets_from
    value_by_bytes i l = value_asked bytes (suc k) i (accepted_zero p) ∙ rw a.at.stands (value_own bytes a.at.others there holds a.number i l)

    pub reader_past : (i : ℕ) → (stored_count s ≤ i → stored_number bytes (suc k) i ≡ refused 18 0) × (declared s ≤ i → value_of bytes (suc k) i ≡ refused 18 0)
    unfolding sets_from
    reader_past i = (
      λ l. number_asked bytes (suc k) i (accepted_zero p) ∙ rw a.at.stands (number_past bytes a.at.others there holds a.number i l),
      λ l. value_asked bytes (suc k) i (accepted_zero p) ∙ rw a.at.stands (value_past bytes a.at.others there holds a.number i l),
    )

  -- set 0, or one past the last
  none_from : (k : ℕ) → (k ≡ 0) ⊎ (length sets < k) → sets_from bytes k ≡ []
  unfolding sets_from
  none_from zero h = refl
  none_from (suc k) (inl e) = absurd (omega arith)
  none_from (suc k) (inr l) = no_parts p k (omega arith)

  pub reader_no_set : (k i : ℕ) → (k ≡ 0) ⊎ (length sets < k) → NoSuch bytes k i
  reader_no_set k i h =
      let none = none_from k h in
      record {
        number = number_asked bytes k i (accepted_zero p) ∙ rw none refl;
        value = value_asked bytes k i (accepted_zero p) ∙ rw none refl;
        all = all_asked bytes k (accepted_zero p) ∙ rw none refl;
      }

  pub reader_not_58 : {k : ℕ} {s : Set} {q : Part} → SetAt sets bytes k s q → (s.number ≡ 58 → ⊥) → (i : ℕ) → NoSuch bytes (suc k) i
  unfolding sets_from
  reader_not_58 {k} a n i =
      record {
        number = number_asked bytes (suc k) i (accepted_zero p) ∙ rw a.stands (number_other bytes a.others (set_holds p a) n i);
        value = value_asked bytes (suc k) i (accepted_zero p) ∙ rw a.stands (value_other bytes a.others (set_holds p a) n i);
        all = all_asked bytes (suc k) (accepted_zero p) ∙ rw a.stands (all_other bytes a.others (set_holds p a) n);
      }

-- two 58s, of one file or of two
module _ {sets sets' : List Set} {bytes bytes' : List ℕ} (p : Proper sets bytes) (p' : Proper sets' bytes') {k k' : ℕ} {s s' : Set} {q q' : Part}
    (a : At58 sets bytes k s q) (a' : At58 sets' bytes' k' s' q') where
  pub own_bytes_decide : set_case s ≡ set_case s' → (i i' : ℕ) → i < declared s → i' < declared s'
      → ((r : ℕ) → r < numbers_of (set_case s) → own_bytes bytes q (i * numbers_of (set_case s) + r) ≡ own_bytes bytes' q' (i' * numbers_of (set_case s) + r))
      → value_of bytes (suc k) i ≡ value_of bytes' (suc k') i'
  own_bytes_decide c i i' l l' h =
      let number : ℕ → Real = λ j. real_of (own_bytes bytes q j) in
      let number' : ℕ → Real = λ j. real_of (own_bytes bytes' q' j) in
      value_by_bytes p a i l
      ∙ value_with_same number number' (set_case s) i i' (λ r m. ap real_of (h r m))
      ∙ ap (λ (x : ℕ). value_with number' x i') c
      ∙ sym (value_by_bytes p' a' i' l')

  pub own_bytes_number : (j j' : ℕ) → j < stored_count s → j' < stored_count s' → own_bytes bytes q j ≡ own_bytes bytes' q' j' → stored_item s j ≡ stored_item s' j'
  own_bytes_number j j' l l' h =
      let x = item_own bytes a.at.others (there p a) (holds p a) a.number j l in
      let y = item_own bytes' a'.at.others (there p' a') (holds p' a') a'.number j' l' in
      real_same (stored_item s j) (stored_item s' j') (own_bytes bytes q j) (own_bytes bytes' q' j') x.0 y.0 (x.1 ∙ ap real_of h ∙ sym y.1)
