-- What is kept of an open line grows as the line does, and the judge says of it what it says of the line.
use Rattle.std.specs.Prelude.{◌≡◌, Bool, ◌&&◌, List, [], ◌∷◌, ◌++◌, ℕ, zero, suc, ◌+◌, ◌-◌, ◌≤◌, ◌<◌, leb, eqb, length, get_or, set}
use Rattle.std.proofs.Math.Path.{refl, sym}
use Rattle.std.proofs.Common.{ap, subst, ◌∙◌, append-nil, inl, ⊎_elim, add-one, arith, length-append, length-take, take-suc, take-suc-set, take_all, length-take-le, get_or-append-add}
use Rattle.std.proofs.Math.Bool.{true, false}
use borrow.Author.Tests.{ltb-true, ltb-false, lt-ltb, le-ltb, le-leb, lt-leb, eqb-true, eqb-false, eq-eqb, ne_eqb}
use Rattle.std.proofs.Math.Dec.{ltb}
use Rattle.std.proofs.Math.ListN.{take}
use Rattle.std.proofs.Math.Seq.{take-take}
use Rattle.std.proofs.lemmas.List.{take-append-le, get_or_at}
use Rattle.laws.specs.Choice.{pick}
use Rattle.laws.specs.ChoiceLaws.{below_or_not}
use Rattle.laws.specs.Cut.{line_len}
use Rattle.line.specs.Line.{refusal, passed, Allowed, none, more, is_allowed, without_return, columns, first_bad, line_fault}
use Rattle.line.specs.LineLaws.{columns_crlf, columns_lf, columns_take, columns_within, columns_allowed, line_fault_sound}
use Rattle.line.specs.declared.Refusal.{Refusal}
use Rattle.walk.specs.declared.State.{State}
use Rattle.std.specs.Prelude.{Result, Ok, Err}
use Rattle.judge.specs.Judge.{Run, going, refused, at_line, line_step, on_outcome, run_step, run_end}
use Rattle.judge.specs.Lines.{Account, run_of, LinesJudged}
use Rattle.judge.specs.JudgeLaws.{line_step_own}
use Rattle.judge.specs.LinesLaws.{one_run}
use Rattle.judge.specs.Refusal.{LineNumber}
use Rattle.judge.specs.RefusalLaws.{no_fault, line_number}
use Rattle.stream.specs.Stream.{OpenLine, open_of, longer, columns_of, fault_of, open_fault, open_outcome, line_end, line_in, open_end}

-- the first byte not allowed: among how many, in bytes of two parts, counted from a later column
first_bad_most : (k : ℕ) (l : List ℕ) → 0 < k → first_bad k l < k + length l
unfolding first_bad
first_bad_most k [] p = omega arith
first_bad_most k (b ∷ l) p = go (is_allowed b) (first_bad_most (k + 1) l (omega arith))
  where
    go : (t : Bool) → first_bad (k + 1) l < k + 1 + length l → pick t (first_bad (k + 1) l) k < k + suc (length l)
    go true h = omega arith
    go false h = omega arith

pub bad_most : (l : List ℕ) → first_bad 1 l ≤ length l
bad_most l = omega (arith, first_bad_most 1 l (omega arith))

first_bad_append : (k : ℕ) (a b : List ℕ) → 0 < k → first_bad k (a ++ b) ≡ pick (ltb 0 (first_bad k a)) (first_bad k a) (first_bad (k + length a) b)
unfolding first_bad
first_bad_append k [] b p = let e : k + 0 ≡ k = omega arith in rw e refl
first_bad_append k (x ∷ a) b p = go (is_allowed x) (first_bad_append (k + 1) a b (omega arith))
  where
    go : (t : Bool) → first_bad (k + 1) (a ++ b) ≡ pick (ltb 0 (first_bad (k + 1) a)) (first_bad (k + 1) a) (first_bad (k + 1 + length a) b)
        → pick t (first_bad (k + 1) (a ++ b)) k ≡ pick (ltb 0 (pick t (first_bad (k + 1) a) k)) (pick t (first_bad (k + 1) a) k) (first_bad (k + suc (length a)) b)
    go true h = let e : k + suc (length a) ≡ k + 1 + length a = omega arith in rw e h
    go false h = rw (lt-ltb 0 k p) refl

pub first_bad_from : (h k : ℕ) (l : List ℕ) → 0 < k → first_bad (h + k) l ≡ pick (ltb 0 (first_bad k l)) (h + first_bad k l) 0
unfolding first_bad
first_bad_from h k [] p = refl
first_bad_from h k (x ∷ l) p = go (is_allowed x) (first_bad_from h (k + 1) l (omega arith))
  where
    go : (t : Bool) → first_bad (h + (k + 1)) l ≡ pick (ltb 0 (first_bad (k + 1) l)) (h + first_bad (k + 1) l) 0
        → pick t (first_bad (h + k + 1) l) (h + k) ≡ pick (ltb 0 (pick t (first_bad (k + 1) l) k)) (h + pick t (first_bad (k + 1) l) k) 0
    go true i = let e : h + k + 1 ≡ h + (k + 1) = omega arith in rw e i
    go false i = rw (lt-ltb 0 k p) refl

-- the first 80 bytes, and the last one, of bytes in two parts
first_append : (a b : List ℕ) → take 80 (take 80 a ++ b) ≡ take 80 (a ++ b)
first_append a b =
    ⊎_elim
    (λ h.
    let n : length (take 80 a) ≡ 80 = length-take-le 80 a (omega arith) in
    take-append-le 80 (take 80 a) b (omega arith) ∙ take-take 80 80 a (omega arith) ∙ sym (take-append-le 80 a b (omega arith)))
    (λ h. ap (λ (x : List ℕ). take 80 (x ++ b)) (take_all 80 a h))
    (below_or_not 80 (length a))

pub get_d_within : (l : List ℕ) (i d e : ℕ) → i < length l → get_or l i d ≡ get_or l i e
get_d_within [] i d e h = absurd (omega arith)
get_d_within (x ∷ l) zero d e h = refl
get_d_within (x ∷ l) (suc i) d e h = get_d_within l i d e (omega arith)

last_append : (a b : List ℕ) → get_or (a ++ b) (length (a ++ b) - 1) 0 ≡ get_or b (length b - 1) (get_or a (length a - 1) 0)
last_append a [] = rw (append-nil a) refl
last_append a (x ∷ b) =
    let n : length (a ++ (x ∷ b)) - 1 ≡ length a + (length (x ∷ b) - 1) = omega (arith, length-append a (x ∷ b)) in
    rw (n, get_or-append-add a (x ∷ b) (length (x ∷ b) - 1) 0) (get_d_within (x ∷ b) (length (x ∷ b) - 1) 0 (get_or a (length a - 1) 0) (omega arith))

-- an open line grows as its bytes do
pub longer_append : (a b : List ℕ) → longer (open_of a) b ≡ open_of (a ++ b)
unfolding longer open_of
longer_append a b =
    let k : 1 + length a ≡ length a + 1 = omega arith in
    rw (first_append a b, sym (last_append a b), sym (length-append a b), first_bad_append 1 a b (omega arith), k) refl

pub longer_none : (b : List ℕ) → longer (open_of []) b ≡ open_of b
longer_none b = longer_append [] b

-- what a line's columns are refused for, by the first bad byte of the line and the number of its columns
fault_same : (ended : Bool) (cs : List ℕ) (bad n : ℕ) → n ≡ length cs → pick (ltb 0 bad && leb bad n) bad 0 ≡ first_bad 1 cs
    → fault_of ended n bad ≡ line_fault ended cs
unfolding line_fault fault_of
fault_same ended cs bad n e h = rw (← h, ← e) (go (ltb 0 bad) refl (leb bad n))
  where
    go : (t : Bool) → ltb 0 bad ≡ t → (u : Bool) → pick (t && u) (refusal 2 bad) (pick (ltb 80 n) (refusal 3 1) (pick ended passed (refusal 4 1)))
        ≡ pick (ltb 0 (pick (t && u) bad 0)) (refusal 2 (pick (t && u) bad 0)) (pick (ltb 80 n) (refusal 3 1) (pick ended passed (refusal 4 1)))
    go true p true = rw p refl
    go true p false = refl
    go false p u = refl

-- the first bad byte of all bytes, and of all but a CR that comes last
bad_all : (l : List ℕ) → pick (ltb 0 (first_bad 1 l) && leb (first_bad 1 l) (length l)) (first_bad 1 l) 0 ≡ first_bad 1 l
bad_all l = rw (le-leb (first_bad 1 l) (length l) (bad_most l)) (go (first_bad 1 l))
  where
    go : (k : ℕ) → pick (ltb 0 k && true) k 0 ≡ k
    go zero = refl
    go (suc k) = rw (lt-ltb 0 (suc k) (omega arith)) refl

bad_before : (a : List ℕ) → pick (ltb 0 (first_bad 1 (a ++ (13 ∷ []))) && leb (first_bad 1 (a ++ (13 ∷ []))) (length a)) (first_bad 1 (a ++ (13 ∷ []))) 0 ≡ first_bad 1 a
unfolding first_bad is_allowed
bad_before a = rw (first_bad_append 1 a (13 ∷ []) (omega arith)) (go (first_bad 1 a) (bad_most a))
  where
    go : (k : ℕ) → k ≤ length a
        → pick (ltb 0 (pick (ltb 0 k) k (1 + length a)) && leb (pick (ltb 0 k) k (1 + length a)) (length a)) (pick (ltb 0 k) k (1 + length a)) 0 ≡ k
    go zero h = rw (lt-ltb 0 (1 + length a) (omega arith), lt-leb (1 + length a) (length a) (omega arith)) refl
    go (suc k) h = rw (lt-ltb 0 (suc k) (omega arith), lt-ltb 0 (suc k) (omega arith), le-leb (suc k) (length a) h) refl

-- a line's columns, by its last byte
columns_last : (a : List ℕ) (z : ℕ) → columns true (a ++ (z ∷ [])) ≡ pick (eqb z 13) a (a ++ (z ∷ []))
columns_last a z = go (eqb z 13) refl
  where
    go : (t : Bool) → eqb z 13 ≡ t → columns true (a ++ (z ∷ [])) ≡ pick t a (a ++ (z ∷ []))
    go true e = rw (eqb-true z 13 e) (columns_crlf a)
    go false e =
        let n : length (a ++ (z ∷ [])) - 1 ≡ length a = omega (arith, length-append a (z ∷ [])) in
        columns_lf (a ++ (z ∷ [])) (rw (n, get_or_at a z [] 0 (length a) refl) (eqb-false z 13 e))

-- what an open line says of its line: how many columns it has, what it is refused for
record Says (ended : Bool) (l : List ℕ) : Type 0 where
  width : columns_of ended (open_of l).last (open_of l).size ≡ length (columns ended l)
  bad : pick (ltb 0 (open_of l).bad && leb (open_of l).bad (length (columns ended l))) (open_of l).bad 0 ≡ first_bad 1 (columns ended l)

says_end : (l : List ℕ) → Says false l
unfolding columns_of columns open_of
says_end l = record { width = refl; bad = bad_all l }

says_snoc : (a : List ℕ) (z : ℕ) → Says true (a ++ (z ∷ []))
unfolding columns_of open_of
says_snoc a z = go (eqb z 13) refl
  where
    n : length (a ++ (z ∷ [])) ≡ length a + 1
    n = length-append a (z ∷ [])

    k : length (a ++ (z ∷ [])) - 1 ≡ length a
    k = omega (arith, n)

    last : get_or (a ++ (z ∷ [])) (length (a ++ (z ∷ [])) - 1) 0 ≡ z
    last = rw k (get_or_at a z [] 0 (length a) refl)

    go : (t : Bool) → eqb z 13 ≡ t → Says true (a ++ (z ∷ []))
    go true e =
        let c : columns true (a ++ (z ∷ [])) ≡ a = columns_last a z ∙ rw e refl in
        record { width = rw (last, e, c) k; bad = rw c (rw (eqb-true z 13 e) (bad_before a)) }
    go false e =
        let c : columns true (a ++ (z ∷ [])) ≡ a ++ (z ∷ []) = columns_last a z ∙ rw e refl in
        record { width = rw (last, e, c) refl; bad = rw c (bad_all (a ++ (z ∷ []))) }

says_none : Says true []
unfolding columns_of columns open_of without_return first_bad
says_none = record { width = refl; bad = refl }

says_ended : (l : List ℕ) → Says true l
says_ended l =
    ⊎_elim
    (λ h. let e : l ≡ take (length l - 1) l ++ (get_or l (length l - 1) 0 ∷ []) = sym (take_all (suc (length l - 1)) l (omega arith)) ∙ take-suc l (length l - 1) 0 (omega arith) in
    subst (Says true) (sym e) (says_snoc (take (length l - 1) l) (get_or l (length l - 1) 0)))
    (λ h. subst (Says true) (sym (none l h)) says_none)
    (below_or_not 0 (length l))
  where
    none : (l : List ℕ) → length l ≤ 0 → l ≡ []
    none [] h = refl
    none (b ∷ l) h = absurd (omega arith)

fault_says : (ended : Bool) (l : List ℕ) → Says ended l → open_fault ended (open_of l) ≡ line_fault ended (columns ended l)
fault_says ended l s = rw s.width (fault_same ended (columns ended l) (open_of l).bad (length (columns ended l)) refl s.bad)

-- the judge says of an open line what it says of its line: when its LF comes,
module _ (s : State) (l : List ℕ) where
  fault : open_fault true (open_of l) ≡ line_fault true (columns true l)
  fault = fault_says true l (says_ended l)

  open_own : 0 < (line_fault true (columns true l)).number → Err (line_fault true (columns true l)) ≡ line_step s l
  open_own p = line_step_own s l (length (columns true l)) refl (line_fault true (columns true l)) (rw (← columns_take true l) refl) p

  open_place : (line_fault true (columns true l)).number ≤ 0 → line_step s (take (length (columns true l)) (take 80 l)) ≡ line_step s l
  unfolding line_step
  open_place h =
      let p = line_fault_sound true (columns true l) (no_fault (columns true l) (omega arith)) in
      let e : take (length (columns true l)) (take 80 l) ≡ columns true l = take-take (length (columns true l)) 80 l p.1 ∙ sym (columns_take true l) in
      rw (e, columns_allowed p.2) refl

  pub open_line_lem : open_outcome s (open_of l) ≡ line_step s l
  unfolding open_outcome open_of
  open_line_lem = rw (fault, (says_ended l).width) (go (ltb 0 (line_fault true (columns true l)).number) refl)
    where
      go : (t : Bool) → ltb 0 (line_fault true (columns true l)).number ≡ t
          → pick t (Err (line_fault true (columns true l))) (line_step s (take (length (columns true l)) (open_of l).first)) ≡ line_step s l
      go true e = open_own (ltb-true 0 (line_fault true (columns true l)).number e)
      go false e = open_place (ltb-false 0 (line_fault true (columns true l)).number e)

pub end_line : (r : Run) (l : List ℕ) → line_end r (open_of l) ≡ run_step r l
end_line (going s n) l = ap (on_outcome n) (open_line_lem s l)
end_line (refused r) l = refl

-- and at the file's end
pub end_open : (r : Run) (l : List ℕ) → open_end r (open_of l) ≡ run_end r l
unfolding open_of columns
end_open (going s n) [] = refl
end_open (going s n) (b ∷ l) = rw (ne_eqb (length (b ∷ l)) 0 (λ e. omega arith)) (ap (at_line n) (fault_says false (b ∷ l) (says_end (b ∷ l))))
end_open (refused r) l = refl

-- the number of an open line's refusal is a line's
fault_number : (columns bad : ℕ) → 0 < (fault_of true columns bad).number → LineNumber (fault_of true columns bad).number
unfolding fault_of
fault_number columns bad h = by (ltb 0 bad && leb bad columns) (ltb 80 columns) h
  where
    by : (t u : Bool) → 0 < (pick t (refusal 2 bad) (pick u (refusal 3 1) passed)).number → LineNumber (pick t (refusal 2 bad) (pick u (refusal 3 1) passed)).number
    by true u h = (omega arith, inl (omega arith))
    by false true h = (omega arith, inl (omega arith))
    by false false h = absurd (omega arith)

pub open_number : (s : State) (o : OpenLine) (f : Refusal) → open_outcome s o ≡ Err f → LineNumber f.number
unfolding open_outcome
open_number s o f h = by (ltb 0 (open_fault true o).number) refl h
  where
    by : (t : Bool) → ltb 0 (open_fault true o).number ≡ t
        → pick t (Err (open_fault true o)) (line_step s (take (columns_of true o.last o.size) o.first)) ≡ Err f → LineNumber f.number
    by true e h = let q : open_fault true o ≡ f = cc in rw q at (fault_number (columns_of true o.last o.size) o.bad (ltb-true 0 (open_fault true o).number e))
    by false e h = line_number s (take (columns_of true o.last o.size) o.first) f h

-- the open line in a record's bytes, by the number of its columns
columns_of_most : (ended : Bool) (last size : ℕ) → columns_of ended last size ≤ size
unfolding columns_of
columns_of_most ended last size = go (ended && eqb last 13)
  where
    go : (t : Bool) → pick t (size - 1) size ≤ size
    go true = omega arith
    go false = omega arith

pub columns_of_none : (ended : Bool) (last : ℕ) → columns_of ended last 0 ≡ 0
columns_of_none ended last = omega (arith, columns_of_most ended last 0)

fault_short : (columns bad : ℕ) → (fault_of true columns bad).number ≤ 0 → columns ≤ 80
unfolding fault_of
fault_short columns bad h = by (ltb 0 bad && leb bad columns) (ltb 80 columns) refl h
  where
    by : (t u : Bool) → ltb 80 columns ≡ u → (pick t (refusal 2 bad) (pick u (refusal 3 1) passed)).number ≤ 0 → columns ≤ 80
    by true u e h = absurd (omega arith)
    by false true e h = absurd (omega arith)
    by false false e h = ltb-false 80 columns e

module _ (s : State) (p : List ℕ) (h k n : ℕ) (e : n ≡ columns_of true (get_or p 80 0) h) (f : Refusal) (q : f ≡ fault_of true n k) where
  held_fault : open_fault true (line_in p h k) ≡ f
  held_fault = sym (rw (← e) q)

  pub held_refused : 0 < f.number → Err f ≡ open_outcome s (line_in p h k)
  unfolding open_outcome
  held_refused g = rw (held_fault, lt-ltb 0 f.number g) refl

  pub held_short : f.number ≤ 0 → n ≤ 80
  held_short g = fault_short n k (rw q at g)

  pub held_passed : f.number ≤ 0 → line_step s (take n p) ≡ open_outcome s (line_in p h k)
  unfolding open_outcome
  held_passed g =
      let m : n ≤ h = omega (arith, columns_of_most true (get_or p 80 0) h) in
      rw (held_fault, le-ltb 0 f.number g, ← e, take-take n h (take 80 p) m, take-take n 80 p (held_short g)) refl

-- allowed bytes have no LF among them
allowed_open : {cs : List ℕ} → Allowed cs → length cs ≤ line_len cs
unfolding line_len
allowed_open none = omega arith
allowed_open (more {b} l u a) = rw (ne_eqb b 10 (λ e. omega arith)) (omega (arith, allowed_open a))

-- the outcome that a run of one line comes from
abbrev outcome_of : Run → Result State Refusal
outcome_of (going s n) = Ok s
outcome_of (refused r) = Err (refusal r.number r.column)

outcome_back : (n : ℕ) (o : Result State Refusal) → outcome_of (on_outcome n o) ≡ o
outcome_back n (Ok s) = refl
outcome_back n (Err f) = refl

-- the first n bytes as a line, by their m columns: refused by itself, or as the columns are with an LF of their own
pub ended_most : (p : List ℕ) (n m : ℕ) → m ≡ length (columns true (take n p)) → m ≤ n
ended_most p n m e = omega (arith, columns_within true (take n p), length-take n p)

module _ (s : State) (p : List ℕ) (n m : ℕ) (e : m ≡ length (columns true (take n p))) (f : Refusal) (q : f ≡ line_fault true (take m p)) where
  ended_columns : take m (take n p) ≡ take m p
  ended_columns = take-take m n p (ended_most p n m e)

  pub ended_own : 0 < f.number → Err f ≡ line_step s (take n p)
  ended_own g = line_step_own s (take n p) m e f (rw ended_columns q) g

  module _ (g : f.number ≤ 0) (room : m < length p) (r : Account) (j : LinesJudged s 0 (take (m + 1) (set p m 10)) 0 r) where
    fine : Allowed (take m p)
    fine = (line_fault_sound true (take m p) (no_fault (take m p) (omega (arith, ap (λ (x : Refusal). x.number) q)))).2

    same_step : line_step s (take m p) ≡ line_step s (take n p)
    unfolding line_step
    same_step =
        let c : columns true (take n p) ≡ take m p = columns_take true (take n p) ∙ rw (← e) ended_columns in
        rw (c, columns_allowed fine) refl

    one_line : LinesJudged s 0 (take m p ++ (10 ∷ [])) 0 r
    one_line = rw (add-one, take-suc-set p m 10 room) at j

    outcome : outcome_of (run_of r.state r.lines r.number r.column) ≡ line_step s (take n p)
    outcome = ap outcome_of (one_run s 0 (take m p) (allowed_open fine) r one_line) ∙ outcome_back 0 (line_step s (take m p)) ∙ same_step

    pub ended_refused : 0 < r.number → Err (refusal r.number r.column) ≡ line_step s (take n p)
    ended_refused z = rw (ne_eqb r.number 0 (λ y. omega arith)) at outcome

    pub ended_next : r.number ≤ 0 → Ok r.state ≡ line_step s (take n p)
    ended_next z = rw (eq-eqb r.number 0 (omega arith)) at outcome
