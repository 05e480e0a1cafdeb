-- The check of a line by itself refuses it for what is wrong with it, and for nothing else.
use Rattle.std.specs.Prelude.{◌≡◌, refl, Bool, true, false, List, [], ◌∷◌, ◌++◌, ℕ, suc, ◌+◌, ◌≤◌, ◌<◌, leb, ltb, length}
use Rattle.std.proofs.Common.{sym, ◌∙◌, zero-add, arith, lt-ltb, le-ltb, ltb-true, ltb-false, le-leb, leb-true, length-append}
use Rattle.laws.specs.Choice.{pick}
use Rattle.laws.specs.ChoiceLaws.{and_left, and_right, and_both, false_not_true}
use Rattle.line.specs.Line.{refusal, passed, Allowed, none, more, is_allowed, first_bad, line_fault}
use Rattle.line.specs.declared.Refusal.{Refusal}
use Rattle.line_laws.specs.Fault.{BadByte, bad_byte, LineFault, byte, long, unended}

-- one byte: allowed as the test says
allowed_test : {b : ℕ} → Allowed (b ∷ []) → is_allowed b ≡ true
unfolding is_allowed
allowed_test (more {b} l u a) = and_both (leb 32 b) (leb b 126) (le-leb 32 b l) (le-leb b 126 u)

allowed_more : (b : ℕ) {bs : List ℕ} → is_allowed b ≡ true → Allowed bs → Allowed (b ∷ bs)
unfolding is_allowed
allowed_more b e a = more (leb-true 32 b (and_left (leb 32 b) (leb b 126) e)) (leb-true b 126 (and_right (leb 32 b) (leb b 126) e)) a

-- what a search for a byte not allowed finds, with columns counted from k
data Searched (k : ℕ) : List ℕ → ℕ → Type 0 where
  found : {b : ℕ} (before after : List ℕ) → Allowed before → (Allowed (b ∷ []) → ⊥) → Searched k (before ++ (b ∷ after)) (length before + k)
  clear : {cs : List ℕ} → Allowed cs → Searched k cs 0

searched_next : {k b c : ℕ} {bs : List ℕ} → is_allowed b ≡ true → Searched (k + 1) bs c → Searched k (b ∷ bs) c
searched_next {k} {b} e (found before after a n) =
    let m : length before + (k + 1) ≡ suc (length before) + k = omega arith in
    rw m (found (b ∷ before) after (allowed_more b e a) n)
searched_next {b = b} e (clear a) = clear (allowed_more b e a)

searched : (k : ℕ) (cs : List ℕ) → Searched k cs (first_bad k cs)
unfolding first_bad
searched k [] = clear none
searched k (b ∷ bs) = by (is_allowed b) refl (searched (k + 1) bs)
  where
    by : (t : Bool) → is_allowed b ≡ t → Searched (k + 1) bs (first_bad (k + 1) bs) → Searched k (b ∷ bs) (pick t (first_bad (k + 1) bs) k)
    by true e r = searched_next e r
    by false e r =
        let here : Searched k (b ∷ bs) (0 + k) = found [] bs none (λ a. false_not_true (sym e ∙ allowed_test a)) in
        rw (zero-add k) at here

-- what is wrong with a line of bytes allowed, and with any line
abbrev of_length : Bool → ℕ → Refusal
of_length ended n = pick (ltb 80 n) (refusal 3 1) (pick ended passed (refusal 4 1))

length_fault : (ended : Bool) (cs : List ℕ) → Allowed cs → 0 < (of_length ended (length cs)).number → LineFault ended cs (of_length ended (length cs))
length_fault ended cs a p = by ended (ltb 80 (length cs)) refl p
  where
    by : (ended t : Bool) → ltb 80 (length cs) ≡ t → 0 < (pick t (refusal 3 1) (pick ended passed (refusal 4 1))).number
        → LineFault ended cs (pick t (refusal 3 1) (pick ended passed (refusal 4 1)))
    by ended true q p = long a (ltb-true 80 (length cs) q)
    by true false q p = absurd (omega arith)
    by false false q p = unended a (ltb-false 80 (length cs) q)

searched_fault : (ended : Bool) {cs : List ℕ} {c : ℕ} → Searched 1 cs c → 0 < (pick (ltb 0 c) (refusal 2 c) (of_length ended (length cs))).number
    → LineFault ended cs (pick (ltb 0 c) (refusal 2 c) (of_length ended (length cs)))
searched_fault ended (found before after a n) p = rw (lt-ltb 0 (length before + 1) (omega arith)) (byte (bad_byte before after a n))
searched_fault ended {cs} (clear a) p = length_fault ended cs a p

-- what a line is refused for is wrong with it
pub line_fault_fault : (ended : Bool) (cs : List ℕ) → 0 < (line_fault ended cs).number → LineFault ended cs (line_fault ended cs)
unfolding line_fault
line_fault_fault ended cs p = searched_fault ended (searched 1 cs) p

-- and a line with something wrong is refused for it
first_bad_clear : (k : ℕ) {cs : List ℕ} → Allowed cs → first_bad k cs ≡ 0
unfolding first_bad
first_bad_clear k none = refl
first_bad_clear k (more l u a) = rw (allowed_test (more l u none)) (first_bad_clear (k + 1) a)

first_bad_first : (k b : ℕ) (after : List ℕ) (t : Bool) → is_allowed b ≡ t → (Allowed (b ∷ []) → ⊥) → first_bad k (b ∷ after) ≡ k
unfolding first_bad
first_bad_first k b after true e n = absurd (n (allowed_more b e none))
first_bad_first k b after false e n = rw e refl

first_bad_found : (k b : ℕ) {before : List ℕ} (after : List ℕ) → Allowed before → (Allowed (b ∷ []) → ⊥) → first_bad k (before ++ (b ∷ after)) ≡ length before + k
unfolding first_bad
first_bad_found k b after none n = first_bad_first k b after (is_allowed b) refl n ∙ sym (zero-add k)
first_bad_found k b after (more l u a) n = rw (allowed_test (more l u none), first_bad_found (k + 1) b after a n) (omega arith)

pub line_fault_only : {ended : Bool} {cs : List ℕ} {f : Refusal} → LineFault ended cs f → line_fault ended cs ≡ f
unfolding line_fault
line_fault_only (byte (bad_byte {b} before after a n)) = rw (first_bad_found 1 b after a n, lt-ltb 0 (length before + 1) (omega arith)) refl
line_fault_only (long {cs = cs} a h) = rw (first_bad_clear 1 a, lt-ltb 80 (length cs) h) refl
line_fault_only (unended {cs} a h) = rw (first_bad_clear 1 a, le-ltb 80 (length cs) h) refl

-- a refusal has a number; a byte's column is one of the line's
pub line_some : {ended : Bool} {cs : List ℕ} {f : Refusal} → LineFault ended cs f → 0 < f.number
line_some (byte b) = omega arith
line_some (long a h) = omega arith
line_some (unended a h) = omega arith

pub byte_inside : {cs : List ℕ} {c : ℕ} → BadByte cs c → (1 ≤ c) × (c ≤ length cs)
byte_inside (bad_byte {b} before after a n) = (omega arith, omega (arith, length-append before (b ∷ after)))
