-- Numbers and counts are read as they are spelled, in both directions; the laws of a loop over digits.
use Rattle.std.specs.Prelude.{◌≡◌, refl, Bool, true, false, ◌&&◌, List, [], ◌∷◌, ◌++◌, ℕ, zero, suc, ◌+◌, ◌-◌, ◌*◌, ◌≤◌, ◌<◌, ltb, eqb, length, take, drop, get_or, cond}
use Rattle.std.specs.List.{prefix_len}
use Rattle.std.proofs.Common.{sym, ap, ◌∙◌, arith, eqb-true, lt-ltb, ne_eqb, take-append-drop, length-take-le}
use Rattle.std.proofs.lemmas.Bool.{eqb-false}
use Rattle.std.proofs.Math.Seq.{take-append_seam}
use Rattle.laws.specs.Choice.{pick}
use Rattle.laws.specs.ChoiceLaws.{false_not_true}
use Rattle.laws.specs.Run.{run}
use Rattle.text.specs.Parts.{Digits, Digits.none as no_digit, more, is_digit}
use Rattle.text.specs.PartsLaws.{is_digit_low, is_digit_high, is_digit_complete}
use Rattle.format.specs.Format.{Count, once, times, Numeral, nought, from, Counted, left_out, written}
use Rattle.format.specs.Reading.{digits_before, with_digit, numbered, number_in, number_of, Counting, none, some, count_of}

-- std's own count
pub digits_before_prefix : (l : List ℕ) → digits_before l ≡ prefix_len is_digit l
unfolding digits_before
digits_before_prefix [] = refl
digits_before_prefix (b ∷ l) = go (is_digit b) (digits_before_prefix l)
  where
    go : (t : Bool) → digits_before l ≡ prefix_len is_digit l → pick t (suc (digits_before l)) 0 ≡ cond t (1 + prefix_len is_digit l) 0
    go true h = omega arith
    go false h = refl

pub digits_before_most : (l : List ℕ) → digits_before l ≤ length l
unfolding digits_before
digits_before_most [] = omega arith
digits_before_most (b ∷ l) = most (is_digit b) (digits_before_most l)
  where
    most : (t : Bool) → digits_before l ≤ length l → pick t (suc (digits_before l)) 0 ≤ suc (length l)
    most true h = omega arith
    most false h = omega arith

-- no digit stands first
pub no_digit_first : (l : List ℕ) → digits_before l ≡ 0 → is_digit (get_or l 0 0) ≡ false
unfolding digits_before is_digit
no_digit_first [] h = refl
no_digit_first (b ∷ l) h = go (is_digit b) refl h
  where
    go : (t : Bool) → is_digit b ≡ t → pick t (suc (digits_before l)) 0 ≡ 0 → is_digit b ≡ false
    go true e h = absurd (omega arith)
    go false e h = e

-- Digits are read to their last, as their number.

digits_before_digits : {m v : ℕ} {ds : List ℕ} (rest : List ℕ) → digits_before rest ≡ 0 → Digits m ds v → digits_before (ds ++ rest) ≡ length ds
unfolding digits_before
digits_before_digits rest h no_digit = h
digits_before_digits rest h (more {m} {b} low high d) = rw (is_digit_complete b low high, digits_before_digits rest h d) refl

run_digits : {m v : ℕ} {ds : List ℕ} → Digits m ds v → run with_digit m ds ≡ v
unfolding run with_digit
run_digits no_digit = refl
run_digits (more low high d) = run_digits d

nought_digits : (rest : List ℕ) → digits_before rest ≡ 0 → digits_before (48 ∷ rest) ≡ 1
unfolding digits_before is_digit
nought_digits rest h = ap suc h

pub numeral_complete : {v : ℕ} {ns : List ℕ} (rest : List ℕ) → digits_before rest ≡ 0 → Numeral v ns → number_of (ns ++ rest) ≡ numbered v (length ns)
unfolding number_of number_in run with_digit
numeral_complete rest h nought = rw (nought_digits rest h) refl
numeral_complete rest h (from {b} {v} {ds} low d) =
    rw (digits_before_digits rest h d, ne_eqb b 48 (λ e. omega arith), ne_eqb (suc (length ds)) 0 (λ e. omega arith), take-append_seam ds rest)
    (ap (λ (x : ℕ). numbered x (suc (length ds))) (run_digits d))

-- What is read is spelled.

digits_taken : (m : ℕ) (l : List ℕ) → Digits m (take (digits_before l) l) (run with_digit m (take (digits_before l) l))
unfolding digits_before run with_digit
digits_taken m [] = no_digit
digits_taken m (b ∷ l) = go (is_digit b) refl (digits_taken (m * 10 + (b - 48)) l)
  where
    go : (t : Bool) → is_digit b ≡ t → Digits (m * 10 + (b - 48)) (take (digits_before l) l) (run with_digit (m * 10 + (b - 48)) (take (digits_before l) l))
        → Digits m (take (pick t (suc (digits_before l)) 0) (b ∷ l)) (run with_digit m (take (pick t (suc (digits_before l)) 0) (b ∷ l)))
    go true e r = more (is_digit_low b e) (is_digit_high b e) r
    go false e r = no_digit

-- the bytes ns stand first, and a number of value v is read in them
pub record NumberRead (v k : ℕ) (l : List ℕ) : Type 0 where
  pub ns : List ℕ
  pub rest : List ℕ
  pub split : l ≡ ns ++ rest
  pub size : length ns ≡ k
  pub numeral : Numeral v ns

-- digits of a number without a leading zero
numeral_from : (b v : ℕ) (ds : List ℕ) (z : Bool) → eqb b 48 ≡ z → (z && ltb 1 (suc (length ds)) ≡ false) → Digits 0 (b ∷ ds) v → Numeral v (b ∷ ds)
numeral_from b v [] true e h (more low high no_digit) = rw (eqb-true b 48 e) nought
numeral_from b v (d ∷ ds) true e h r = false_not_true (sym h ∙ lt-ltb 1 (suc (length (d ∷ ds))) (omega arith))
numeral_from b v ds false e h (more low high r) = let above : 49 ≤ b = omega (arith, eqb-false b 48 e) in from above (more low high r)

number_read : (l : List ℕ) (k : ℕ) → digits_before l ≡ k → 0 < (number_in k l).used → NumberRead (number_in k l).value (number_in k l).used l
unfolding number_in
number_read l zero e h = absurd (omega arith)
number_read [] (suc k) e h = absurd (omega (arith, e, digits_before_most []))
number_read (b ∷ l) (suc k) e h = go (eqb b 48 && ltb 1 (suc k)) refl h
  where
    taken : length (take k l) ≡ k
    taken = length-take-le k l (omega (arith, digits_before_most (b ∷ l)))

    digits : Digits 0 (b ∷ take k l) (run with_digit 0 (b ∷ take k l))
    digits = rw e at (digits_taken 0 (b ∷ l))

    go : (t : Bool) → (eqb b 48 && ltb 1 (suc k)) ≡ t
        → 0 < (pick (eqb (suc k) 0) (numbered 0 0) (pick t (numbered 0 0) (numbered (run with_digit 0 (b ∷ take k l)) (suc k)))).used
        → NumberRead (pick (eqb (suc k) 0) (numbered 0 0) (pick t (numbered 0 0) (numbered (run with_digit 0 (b ∷ take k l)) (suc k)))).value (pick (eqb (suc k) 0) (numbered 0 0) (pick t (numbered 0 0) (numbered (run with_digit 0 (b ∷ take k l)) (suc k)))).used (b ∷ l)
    go true z h = absurd (omega (arith, simp (ne_eqb (suc k) 0 (λ e. omega arith)) at h))
    go false z h = rw (ne_eqb (suc k) 0 (λ e. omega arith)) (record {
      ns = b ∷ take k l;
      rest = drop k l;
      split = ap (λ (r : List ℕ). b ∷ r) (sym (take-append-drop k l));
      size = ap suc taken;
      numeral = numeral_from b _ (take k l) (eqb b 48) refl (rw taken z) digits;
    })

pub number_sound : (l : List ℕ) → 0 < (number_of l).used → NumberRead (number_of l).value (number_of l).used l
unfolding number_of
number_sound l h = number_read l (digits_before l) refl h

-- no number is read of value 0 and some bytes, but the number 0
pub number_some : (l : List ℕ) → 0 < (number_of l).value → 0 < (number_of l).used
unfolding number_of number_in
number_some l h = go (digits_before l) h
  where
    go : (k : ℕ) → 0 < (number_in k l).value → 0 < (number_in k l).used
    go zero h = absurd (omega arith)
    go (suc k) h = pos (eqb (get_or l 0 0) 48 && ltb 1 (suc k)) (rw (ne_eqb (suc k) 0 (λ e. omega arith)) at h)
      where
        pos : (t : Bool) → 0 < (pick t (numbered 0 0) (numbered (run with_digit 0 (take (suc k) l)) (suc k))).value
            → 0 < (pick (eqb (suc k) 0) (numbered 0 0) (pick t (numbered 0 0) (numbered (run with_digit 0 (take (suc k) l)) (suc k)))).used
        pos true h = absurd (omega arith)
        pos false h = rw (ne_eqb (suc k) 0 (λ e. omega arith)) (omega arith)

-- Counts.

numeral_first : {v : ℕ} {ns : List ℕ} (rest : List ℕ) → Numeral v ns → is_digit (get_or (ns ++ rest) 0 0) ≡ true
unfolding is_digit
numeral_first rest nought = refl
numeral_first rest (from {b} low (more l high d)) = is_digit_complete b l high

pub count_complete : {c : Count} {cs : List ℕ} (rest : List ℕ) → digits_before rest ≡ 0 → Counted c cs → count_of (cs ++ rest) ≡ some c (length cs)
unfolding count_of
count_complete rest h left_out = rw (no_digit_first rest h) refl
count_complete rest h (written {n} some-count ns) =
    rw (numeral_first rest ns, numeral_complete rest h ns, ne_eqb n 0 (λ e. omega arith)) refl

-- the bytes cs stand first and count
pub record CountRead (c : Count) (k : ℕ) (l : List ℕ) : Type 0 where
  pub cs : List ℕ
  pub rest : List ℕ
  pub split : l ≡ cs ++ rest
  pub size : length cs ≡ k
  pub counted : Counted c cs

count_is : {c d : Count} {j k : ℕ} {l : List ℕ} → ◌≡◌ {A = Counting} (some d j) (some c k) → CountRead d j l → CountRead c k l
count_is {c} {d} {j} {k} e r = let p : d ≡ c = cc in let q : j ≡ k = cc in rw (← p, ← q) r

pub count_sound : (l : List ℕ) (c : Count) (k : ℕ) → count_of l ≡ some c k → CountRead c k l
unfolding count_of
count_sound l c k h = go (is_digit (get_or l 0 0)) refl h
  where
    go : (t : Bool) → is_digit (get_or l 0 0) ≡ t
        → ◌≡◌ {A = Counting} (pick t (pick (eqb (number_of l).value 0) none (some (times (number_of l).value) (number_of l).used)) (some once 0)) (some c k) → CountRead c k l
    go true e h = above (eqb (number_of l).value 0) refl h
      where
        above : (z : Bool) → eqb (number_of l).value 0 ≡ z → ◌≡◌ {A = Counting} (pick z none (some (times (number_of l).value) (number_of l).used)) (some c k) → CountRead c k l
        above true z h = let w : ◌≡◌ {A = ℕ} 0 1 = cc in absurd (omega arith)
        above false z h =
            let one : 1 ≤ (number_of l).value = omega (arith, eqb-false (number_of l).value 0 z) in
            let r = number_sound l (number_some l one) in
            count_is h (record { cs = r.ns; rest = r.rest; split = r.split; size = r.size; counted = written one r.numeral })
    go false e h = count_is h (record { cs = []; rest = l; split = refl; size = refl; counted = left_out })
