-- Two files that differ in padding alone are of one list, and every call answers them alike.
use Rattle.std.specs.Prelude.{◌≡◌, Bool, true, false, ◌⊎◌, List, [], ◌∷◌, map, ℕ, zero, suc, ◌<◌, ◌≤◌, eqb, take, drop, Ok, Err}
use Rattle.std.proofs.Math.Path.{refl, sym}
use Rattle.std.proofs.Common.{ap, subst, ◌∙◌, inl, inr, ⊎_elim, arith, eqb-true}
use Rattle.std.proofs.lemmas.Bool.{eqb-false}
use Rattle.std.proofs.Math.ListN.{length}
use Rattle.laws.specs.Cut.{cut}
use Rattle.laws.specs.ChoiceLaws.{below_or_not}
use Rattle.real.specs.Real.{Real}
use Rattle.judge.specs.Judge.{judged, reply}
use Rattle.parts.specs.Parts.{Part, parts_of, dataset_of}
use Rattle.parts.specs.Function.{count_of, first_byte, past_byte}
use Rattle.reader.specs.Reader.{shown_of, stored_number, value_of}
use Rattle.values.specs.Values.{all_values, all_reply, all_places}
use Rattle.rewriter.specs.Rewriter.{rewritten_file, rewrite_reply, rewrite_out}
use Rattle.lister.specs.Lister.{entry, list_reply}
use Rattle.theory.specs.Sets.{Set}
use Rattle.theory.specs.Proper.{Proper}
use Rattle.parts_laws.specs.Declares.{declared}
use Rattle.parts_laws.specs.Stored.{stored_count, stored_item}
use Rattle.rewriter_laws.specs.Differ.{PaddingAside}
use Rattle.rewriter_laws.proofs.RewritingLaws.{aside_rewritten, aside_opening, aside_lines}
use Rattle.theorems.specs.Stands.{SetAt, At58}
use Rattle.theorems.specs.Answers.{real_of_item}
use Rattle.judge_laws.specs.JudgeLaws.{proper_accepted}
use Rattle.theorems.specs.ListerLaws.{set_stands, parts_many, lister_numbers}
use Rattle.theorems.proofs.ReaderLaws.{reader_no_set, reader_not_58, reader_past, number_of_list, reader_values}
use Rattle.theorems.proofs.ValuesLaws.{all_of_list}
use Rattle.theorems.specs.RewriterLaws.{one_list}
use Rattle.theorems.specs.Same.{said_unplaced, SameAnswers}

-- a stored number's places are all that it has of the text
shown_unplaced : (a e b f : ℕ) (x : Real) → said_unplaced (shown_of a e x) ≡ said_unplaced (shown_of b f x)
shown_unplaced a e b f (Ok n) = refl
shown_unplaced a e b f (Err _) = refl

-- rows by their numbers
rows_same : (ps qs : List Part) → map (λ (p : Part). p.lines) ps ≡ map (λ (p : Part). p.lines) qs → map dataset_of ps ≡ map dataset_of qs
    → map count_of ps ≡ map count_of qs → map (λ (p : Part). take 3 (entry p)) ps ≡ map (λ (p : Part). take 3 (entry p)) qs
unfolding entry
rows_same [] [] l d c = refl
rows_same [] (q ∷ qs) l d c = absurd (omega (arith, ap length l))
rows_same (p ∷ ps) [] l d c = absurd (omega (arith, ap length l))
rows_same (p ∷ ps) (q ∷ qs) l d c =
    let lines : p.lines ≡ q.lines = cc l in
    let number : dataset_of p ≡ dataset_of q = cc d in
    let count : count_of p ≡ count_of q = cc c in
    let rest = rows_same ps qs (cc l) (cc d) (cc c) in
    rw (number, count, lines, rest) refl

-- a list from one of its places on
listed : (k : ℕ) (sets : List Set) → k < length sets → (s : Set) × ((later : List Set) × (drop k sets ≡ s ∷ later))
listed k [] h = absurd (omega arith)
listed zero (s ∷ ss) h = (s, (ss, refl))
listed (suc k) (s ∷ ss) h = listed k ss (omega arith)

-- Two proper writings of one list.
module _ {sets : List Set} {x y : List ℕ} (p : Proper sets x) (q : Proper sets y) where
  -- a question's set: none, one that is no 58, or a 58 as it stands in both
  data Asked : ℕ → Type 0 where
    none : {k : ℕ} → (k ≡ 0) ⊎ (length sets < k) → Asked k
    other : {k : ℕ} {s : Set} {u v : Part} → SetAt sets x k s u → SetAt sets y k s v → (s.number ≡ 58 → ⊥) → Asked (suc k)
    function : {k : ℕ} {s : Set} {u v : Part} → At58 sets x k s u → At58 sets y k s v → Asked (suc k)

  asked : (k : ℕ) → Asked k
  asked zero = none (inl refl)
  asked (suc k) = ⊎_elim there (λ (h : length sets ≤ k). none (inr (omega arith))) (below_or_not k (length sets))
    where
      there : k < length sets → Asked (suc k)
      there h =
          let l = listed k sets h in
          let a = set_stands p k l.1.1 in
          let b = set_stands q k l.1.1 in
          by (eqb l.0.number 58) refl a.1 b.1
        where
          by : {s : Set} {u v : Part} (t : Bool) → eqb s.number 58 ≡ t → SetAt sets x k s u → SetAt sets y k s v → Asked (suc k)
          by {s} true e a b = function (record { at = a; number = eqb-true s.number 58 e }) (record { at = b; number = eqb-true s.number 58 e })
          by {s} false e a b = other a b (eqb-false s.number 58 e)

  numbers_same : (k j : ℕ) → said_unplaced (stored_number x k j) ≡ said_unplaced (stored_number y k j)
  numbers_same k j = by k (asked k)
    where
      by : (k : ℕ) → Asked k → said_unplaced (stored_number x k j) ≡ said_unplaced (stored_number y k j)
      by k (none h) = rw ((reader_no_set p k j h).number, (reader_no_set q k j h).number) refl
      by k (other a b n) = rw ((reader_not_58 p a n j).number, (reader_not_58 q b n j).number) refl
      by k (function {s = s} {u} {v} a b) =
          ⊎_elim
          (λ (h : j < stored_count s).
          let one = ap said_unplaced (number_of_list p a j h) in
          let two = ap said_unplaced (number_of_list q b j h) in
          one ∙ shown_unplaced (first_byte u j) (past_byte u j) (first_byte v j) (past_byte v j) (real_of_item (stored_item s j)) ∙ sym two)
          (λ (h : stored_count s ≤ j). rw ((reader_past p a j).0 h, (reader_past q b j).0 h) refl)
          (below_or_not j (stored_count s))

  values_same : (k i : ℕ) → value_of x k i ≡ value_of y k i
  values_same k i = by k (asked k)
    where
      by : (k : ℕ) → Asked k → value_of x k i ≡ value_of y k i
      by k (none h) = (reader_no_set p k i h).value ∙ sym (reader_no_set q k i h).value
      by k (other a b n) = (reader_not_58 p a n i).value ∙ sym (reader_not_58 q b n i).value
      by k (function {s = s} a b) =
          ⊎_elim
          (λ (h : i < declared s). reader_values p a i h ∙ sym (reader_values q b i h))
          (λ (h : declared s ≤ i). (reader_past p a i).1 h ∙ sym ((reader_past q b i).1 h))
          (below_or_not i (declared s))

  all_same : (k : ℕ) → all_values x k ≡ all_values y k
  all_same k = by k (asked k)
    where
      by : (k : ℕ) → Asked k → all_values x k ≡ all_values y k
      by k (none h) = (reader_no_set p k 0 h).all ∙ sym (reader_no_set q k 0 h).all
      by k (other a b n) = (reader_not_58 p a n 0).all ∙ sym (reader_not_58 q b n 0).all
      by k (function a b) = all_of_list p a ∙ sym (all_of_list q b)

  -- answers, where the files have as many lines, each set opens on the same one, and both are rewritten to the same bytes
  module _ (many : length (cut x).lines ≡ length (cut y).lines) (opening : map (λ (r : Part). r.lines) (parts_of x) ≡ map (λ (r : Part). r.lines) (parts_of y))
      (rewritten : rewritten_file x ≡ rewritten_file y) where
    judge_same : judged x ≡ judged y
    judge_same = proper_accepted p ∙ ap (reply 0) many ∙ sym (proper_accepted q)

    answers_same : SameAnswers x y
    unfolding list_reply all_reply all_places rewrite_reply rewrite_out
    answers_same =
        let sets-many : length (parts_of x) ≡ length (parts_of y) = parts_many p ∙ sym (parts_many q) in
        let a = lister_numbers p in
        let b = lister_numbers q in
        record {
          judge = judge_same;
          lister = λ room. rw (judge_same, sets-many) refl;
          rows = rows_same (parts_of x) (parts_of y) opening (a.0 ∙ sym b.0) (a.1 ∙ sym b.1);
          number = numbers_same;
          value = values_same;
          all = λ k out. (rw (all_same k) refl, rw (all_same k) refl);
          rewriter = λ out. (rw (judge_same, rewritten) refl, rw (judge_same, rewritten) refl);
        }

-- Two files that differ in padding alone.
module _ {a b : List Set} {x y : List ℕ} (p : Proper a x) (q : Proper b y) (d : PaddingAside a x y) where
  pub padding_aside : (a ≡ b) × (rewritten_file x ≡ rewritten_file y)
  padding_aside = let e = aside_rewritten p q d in (one_list p q e, e)

  pub padding_answers : SameAnswers x y
  padding_answers =
      let e = padding_aside in
      let r : Proper a y = subst (λ (s : List Set). Proper s y) (sym e.0) q in
      answers_same p r (aside_lines p q d) (aside_opening p q d) e.1
