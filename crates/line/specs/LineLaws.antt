-- What belongs to a line's columns and what to its end, that a line passes exactly when it keeps the rules on bytes, columns and
-- its end, and how it is filled. Each group closes with the laws of a loop over a line.
use Rattle.std.proofs.Common.{⊎_elim, sym, ◌∙◌, ap, append_assoc, add-one, arith, le-ltb, ltb-false, le-leb, leb-true, ne_eqb, length-append, length-take, length-drop, drop_of_length-le, drop-cons, drop-drop, take-suc, take_all, take_at, take-take, length-take-le}
use Rattle.std.specs.Prelude.{◌≡◌, refl, Result, Ok, Err, MatchResult, Bool, true, false, ◌&&◌, List, [], ◌∷◌, ◌++◌, ℕ, zero, suc, ◌+◌, ◌-◌, ◌≤◌, ◌<◌, min, leb, ltb, eqb, length, get_or, take, drop, replicate, fold}
use Rattle.std.proofs.lemmas.Bool.{eqb-true}
use Rattle.std.proofs.lemmas.Bool.Decides.{nat_tests}
use Rattle.std.proofs.lemmas.List.{length-replicate, drop-replicate, replicate-append-replicate, take-append-le}
use Rattle.laws.specs.Choice.{pick}
use Rattle.laws.specs.ChoiceLaws.{and_left, and_right, and_both, and_assoc, below_or_not}
use Rattle.laws.specs.Cut.{line_len}
use Rattle.line.specs.declared.Refusal.{Refusal}
use Rattle.line.specs.Line.{refusal, passed, Allowed, none, more, is_allowed, without_return, columns, first_bad, line_fault, filled, all_allowed, verdict}

-- the first LF is within the bytes
pub line_len_most : (l : List ℕ) → line_len l ≤ length l
unfolding line_len
line_len_most [] = omega arith
line_len_most (b ∷ l) = most (eqb b 10) (line_len_most l)
  where
    most : (t : Bool) → line_len l ≤ length l → pick t 0 (suc (line_len l)) ≤ suc (length l)
    most true h = omega arith
    most false h = omega arith

pub line_len_within : (l : List ℕ) (from : ℕ) → from ≤ length l → from + line_len (drop from l) ≤ length l
line_len_within l from h = omega (arith, line_len_most (drop from l), length-drop from l)

-- the columns are the line's first bytes
without_return_take : (l : List ℕ) → without_return l ≡ take (length (without_return l)) l
unfolding without_return
without_return_take [] = refl
without_return_take (b ∷ []) = one (eqb b 13)
  where
    one : (t : Bool) → pick t [] (b ∷ []) ≡ take (length (pick t [] (b ∷ []))) (b ∷ [])
    one true = refl
    one false = refl
without_return_take (b ∷ c ∷ l) = ap (◌∷◌ b) (without_return_take (c ∷ l))

pub columns_take : (ended : Bool) (l : List ℕ) → columns ended l ≡ take (length (columns ended l)) l
unfolding columns
columns_take true l = without_return_take l
columns_take false l = sym (take_all (length l) l (omega arith))

pub columns_within : (ended : Bool) (l : List ℕ) → length (columns ended l) ≤ length l
columns_within ended l = omega (arith, ap length (columns_take ended l), length-take (length (columns ended l)) l)

-- a line's end is CR LF, or LF alone
pub columns_crlf : (l : List ℕ) → columns true (l ++ (13 ∷ [])) ≡ l
unfolding columns without_return
columns_crlf [] = refl
columns_crlf (b ∷ []) = refl
columns_crlf (b ∷ c ∷ l) = ap (◌∷◌ b) (columns_crlf (c ∷ l))

pub columns_lf : (l : List ℕ) → (get_or l (length l - 1) 0 ≡ 13 → ⊥) → columns true l ≡ l
unfolding columns without_return
columns_lf [] n = refl
columns_lf (b ∷ []) n = simp (ne_eqb _ _ n)
columns_lf (b ∷ c ∷ l) n =
    let e : suc (suc (length l)) - 1 ≡ suc (suc (length l) - 1) = omega arith in
    ap (◌∷◌ b) (columns_lf (c ∷ l) (rw e at n))

-- how many columns there are where the last byte is a CR
-- no allowed byte is a CR, so a line of allowed bytes is its columns
pub allowed_no_return : {cs : List ℕ} → Allowed cs → (i : ℕ) → get_or cs i 0 ≡ 13 → ⊥
allowed_no_return none i h = omega arith
allowed_no_return (more l u a) zero h = omega arith
allowed_no_return (more l u a) (suc i) h = allowed_no_return a i h

pub allowed_append : {a b : List ℕ} → Allowed a → Allowed b → Allowed (a ++ b)
allowed_append none r = r
allowed_append (more l u a) r = more l u (allowed_append a r)

pub columns_allowed : {cs : List ℕ} → Allowed cs → columns true cs ≡ cs
columns_allowed {cs} a = columns_lf cs (allowed_no_return a (length cs - 1))

pub columns_return : (l : List ℕ) → 0 < length l → get_or l (length l - 1) 0 ≡ 13 → length (columns true l) ≡ length l - 1
columns_return l p h =
    let e : l ≡ take (length l - 1) l ++ (13 ∷ []) = sym (take_all (suc (length l - 1)) l (omega arith)) ∙ take-suc l (length l - 1) 0 (omega arith) ∙ rw h refl in
    ap (λ (m : List ℕ). length (columns true m)) e ∙ ap length (columns_crlf (take (length l - 1) l)) ∙ length-take-le (length l - 1) l (omega arith)

-- all bytes are allowed exactly when none is found that is not
is_allowed_complete : (b : ℕ) → 32 ≤ b → b ≤ 126 → is_allowed b ≡ true
unfolding is_allowed
is_allowed_complete b l u = and_both (leb 32 b) (leb b 126) (le-leb 32 b l) (le-leb b 126 u)

first_bad_complete : (k : ℕ) {cs : List ℕ} → Allowed cs → first_bad k cs ≡ 0
unfolding first_bad
first_bad_complete k none = refl
first_bad_complete k (more {b} {bs} l u a) = rw (is_allowed_complete b l u) (first_bad_complete (k + 1) a)

first_bad_case : (k b : ℕ) (bs : List ℕ) (t : Bool) → is_allowed b ≡ t → 0 < k → first_bad k (b ∷ bs) ≡ 0 → (first_bad (k + 1) bs ≡ 0 → Allowed bs) → Allowed (b ∷ bs)
unfolding first_bad is_allowed
first_bad_case k b bs true e p h a =
    more (leb-true 32 b (and_left (leb 32 b) (leb b 126) e)) (leb-true b 126 (and_right (leb 32 b) (leb b 126) e)) (a (simp e at h))
first_bad_case k b bs false e p h a = let z : k ≡ 0 = simp e at h in absurd (omega arith)

first_bad_sound : (k : ℕ) (cs : List ℕ) → 0 < k → first_bad k cs ≡ 0 → Allowed cs
first_bad_sound k [] p h = none
first_bad_sound k (b ∷ bs) p h = first_bad_case k b bs (is_allowed b) refl p h (first_bad_sound (k + 1) bs (omega arith))

-- a line passes exactly when it has its LF, at most 80 columns and only allowed bytes
pub line_fault_complete : (ended : Bool) (cs : List ℕ) → ended ≡ true → length cs ≤ 80 → Allowed cs → line_fault ended cs ≡ passed
unfolding line_fault
line_fault_complete ended cs e h a = rw (first_bad_complete 1 a, le-ltb 80 (length cs) h, e) refl

refused : {A : Type 0} (n c : ℕ) → refusal (suc n) c ≡ passed → A
refused n c h = let z : suc n ≡ 0 = ap (λ (r : Refusal). r.number) h in absurd (omega arith)

pub line_fault_sound : (ended : Bool) (cs : List ℕ) → line_fault ended cs ≡ passed → (ended ≡ true) × (length cs ≤ 80) × Allowed cs
unfolding line_fault
line_fault_sound ended cs h = by_tests ended (ltb 0 (first_bad 1 cs)) (ltb 80 (length cs)) refl refl h
  where
    by_tests :
        (ended bad long : Bool) →
        ltb 0 (first_bad 1 cs) ≡ bad →
        ltb 80 (length cs) ≡ long →
        pick bad (refusal 2 (first_bad 1 cs)) (pick long (refusal 3 1) (pick ended passed (refusal 4 1))) ≡ passed →
        (ended ≡ true) × (length cs ≤ 80) × Allowed cs
    by_tests ended true long p q h = refused 1 _ h
    by_tests ended false true p q h = refused 2 1 h
    by_tests false false false p q h = refused 3 1 h
    by_tests true false false p q h = (refl, ltb-false 80 (length cs) q, first_bad_sound 1 cs (omega arith) (omega (arith, ltb-false 0 (first_bad 1 cs) p)))

-- a loop that looks for a byte not allowed: one more that is allowed, one that is not, the end
pub first_bad_next : (k : ℕ) (l : List ℕ) (i : ℕ) → i < length l → is_allowed (get_or l i 0) ≡ true → first_bad k (drop i l) ≡ first_bad (k + 1) (drop (i + 1) l)
unfolding first_bad
first_bad_next k l i h e = rw (add-one i, drop-cons l i 0, e) refl

pub first_bad_here : (k : ℕ) (l : List ℕ) (i : ℕ) → i < length l → is_allowed (get_or l i 0) ≡ false → first_bad k (drop i l) ≡ k
unfolding first_bad
first_bad_here k l i h e = rw (drop-cons l i 0, e) refl

pub first_bad_end : (k : ℕ) (l : List ℕ) (i : ℕ) → length l ≤ i → first_bad k (drop i l) ≡ 0
unfolding first_bad
first_bad_end k l i h = rw drop_of_length-le

-- "A short line reads as if filled with blanks"
pub filled_short : (cs : List ℕ) → length cs ≤ 80 → filled cs ≡ cs ++ replicate (80 - length cs) 32
unfolding filled
filled_short cs h =
    let k : 80 - length cs + length cs ≡ 80 = omega arith in
    ap (λ (n : ℕ). take 80 (cs ++ replicate n 32)) (sym k) ∙
    rw (← replicate-append-replicate {A = ℕ} (80 - length cs) (length cs) 32, ← append_assoc)
    (take_at (cs ++ replicate (80 - length cs) 32) (replicate (length cs) 32) 80 (simp (length-append, length-replicate) (omega arith)))

pub filled_length : (cs : List ℕ) → length (filled cs) ≡ 80
unfolding filled
filled_length cs = length-take-le 80 (cs ++ replicate 80 32) (omega (arith, length-append cs (replicate 80 32)))

-- the first bytes over blanks
filled_part : (l : List ℕ) (i : ℕ) → i ≤ length l → i ≤ 80 → filled (take i l) ≡ take i l ++ replicate (80 - i) 32
filled_part l i h s =
    let n : length (take i l) ≡ i = length-take-le i l h in
    filled_short (take i l) (omega arith) ∙ rw n refl

-- all of them, the first 80
pub filled_all : (l : List ℕ) (i : ℕ) → length l ≤ i → filled (take i l) ≡ filled l
filled_all l i h = rw (take_all i l h) refl

pub filled_eighty : (l : List ℕ) (i : ℕ) → 80 ≤ i → i ≤ length l → filled (take i l) ≡ filled l
unfolding filled
filled_eighty l i e h =
    let n : 80 ≤ length (take i l) = rw (length-take-le i l h) e in
    take-append-le 80 (take i l) (replicate 80 32) n ∙ take-take 80 i l e ∙ sym (take-append-le 80 l (replicate 80 32) (omega arith))

-- a fold over the bytes, that keeps whether all of them were allowed so far
all_allowed_from : (t : Bool) (l : List ℕ) → fold (λ (fine : Bool) (b : ℕ). fine && is_allowed b) t l ≡ t && all_allowed l
unfolding all_allowed
all_allowed_from true [] = refl
all_allowed_from false [] = refl
all_allowed_from t (b ∷ l) = all_allowed_from (t && is_allowed b) l ∙ sym (and_assoc t (is_allowed b) (all_allowed l))

pub all_allowed_fold : (l : List ℕ) → fold (λ (fine : Bool) (b : ℕ). fine && is_allowed b) true l ≡ all_allowed l
all_allowed_fold l = all_allowed_from true l

-- bytes that may stand in columns hold no LF
not_end : (b : ℕ) → is_allowed b ≡ true → eqb b 10 ≡ false
unfolding is_allowed
not_end b h = ne_eqb b 10 (λ e. let l : 32 ≤ b = leb-true 32 b (and_left (leb 32 b) (leb b 126) h) in omega arith)

pub line_len_block : (n : ℕ) (l : List ℕ) → n ≤ length l → all_allowed (take n l) ≡ true → line_len l ≡ n + line_len (drop n l)
unfolding line_len all_allowed
line_len_block zero l m h = omega arith
line_len_block (suc n) [] m h = absurd (omega arith)
line_len_block (suc n) (b ∷ l) m h =
    rw (not_end b (and_left (is_allowed b) (all_allowed (take n l)) h))
    (omega (arith, line_len_block n l (omega arith) (and_right (is_allowed b) (all_allowed (take n l)) h)))

-- one block more
pub line_len_blocks : (n : ℕ) (l : List ℕ) (i : ℕ) → i + n ≤ length l → all_allowed (take n (drop i l)) ≡ true
    → i + line_len (drop i l) ≡ (i + n) + line_len (drop (i + n) l)
line_len_blocks n l i m h =
    let e : drop n (drop i l) ≡ drop (i + n) l = drop-drop n i l in
    rw (line_len_block n (drop i l) (omega (arith, length-drop i l)) h, e) (omega arith)

pub first_bad_none : (k : ℕ) (l : List ℕ) → all_allowed l ≡ true → first_bad k l ≡ 0
unfolding all_allowed first_bad
first_bad_none k [] h = refl
first_bad_none k (b ∷ l) h = rw (and_left (is_allowed b) (all_allowed l) h) (first_bad_none (k + 1) l (and_right (is_allowed b) (all_allowed l) h))

-- the first bytes, as many as a line has columns, fill it
pub filled_most : (l : List ℕ) (i : ℕ) → min (length l) 80 ≤ i → i ≤ length l → filled (take i l) ≡ filled l
filled_most l i h m = ⊎_elim (λ s. filled_all l i (omega arith)) (λ e. filled_eighty l i (omega arith) m) (below_or_not (length l) 80)

-- copied over blanks
pub filled_copied : (l ys : List ℕ) (n : ℕ) → n ≡ min (length l) 80 → ys ≡ take n l → ys ++ drop n (replicate 80 32) ≡ filled l
filled_copied l ys n h e =
    rw (e, drop-replicate) (sym (filled_part l n (omega arith) (omega arith))) ∙ filled_most l n (omega arith) (omega arith)

-- what a check answers: that nothing is wrong, or the refusal
pub verdict_passed : verdict passed ≡ Ok tt
unfolding verdict
verdict_passed = refl

pub verdict_refused : (n c : ℕ) → 0 < n → verdict (refusal n c) ≡ Err (refusal n c)
unfolding verdict
verdict_refused n c h = rw (ne_eqb n 0 (λ e. omega arith)) refl

pub ok_passed : {f : Refusal} → f ≡ passed → Ok tt ≡ verdict f
ok_passed e = rw e (sym verdict_passed)

pub err_refused : {f : Refusal} {n c : ℕ} → f ≡ refusal n c → 0 < n → Err (refusal n c) ≡ verdict f
err_refused {f} {n} {c} e h = rw e (sym (verdict_refused n c h))

-- what an answer says of the refusal that was looked for
verdict_told : (f : Refusal) (t : Bool) → eqb f.number 0 ≡ t → (x : Result (Unit {0}) Refusal) → x ≡ pick t (Ok tt) (Err f)
    → MatchResult x (λ _. f.number ≡ 0) (λ r. (r ≡ f) × (0 < f.number))
verdict_told f true e x h = rw h (eqb-true f.number 0 e)
verdict_told f false e x h = rw h (refl, grind (arith, nat_tests))

pub verdict_ok : (f : Refusal) → Ok tt ≡ verdict f → f.number ≡ 0
unfolding verdict
verdict_ok f h = verdict_told f (eqb f.number 0) refl (Ok tt) h

pub verdict_err : (f r : Refusal) → Err r ≡ verdict f → (r ≡ f) × (0 < f.number)
unfolding verdict
verdict_err f r h = verdict_told f (eqb f.number 0) refl (Err r) h

-- bytes with no LF after them never pass
pub unended_refused : (cs : List ℕ) → 0 < (line_fault false cs).number
unfolding line_fault
unended_refused cs = by (ltb 0 (first_bad 1 cs)) (ltb 80 (length cs))
  where
    by : (bad long : Bool) → 0 < (pick bad (refusal 2 (first_bad 1 cs)) (pick long (refusal 3 1) (refusal 4 1))).number
    by true long = omega arith
    by false true = omega arith
    by false false = omega arith

pub unended_err : (cs : List ℕ) → Ok tt ≡ verdict (line_fault false cs) → ⊥
unended_err cs h = let z : (line_fault false cs).number ≡ 0 = verdict_ok _ h in omega (arith, unended_refused cs)
