-- The laws of a loop over the sets of a file.
use Rattle.std.specs.Prelude.{◌≡◌, List, [], ◌∷◌, ◌++◌, ℕ, suc, ◌+◌, ◌-◌, ◌*◌, ◌≤◌, ◌<◌, take, drop, set}
use Rattle.std.proofs.Math.Path.{refl}
use Rattle.std.proofs.Common.{sym, ap, ◌∙◌, append_assoc, append-nil, zero-add, arith, length-append, length-drop, take-append-drop, take_at, drop_at, drop-drop, length-take-le}
use Rattle.std.proofs.Math.ListN.{length}
use borrow.Rule.Slice.PartMut.{put_mid}
use borrow.Author.Tests.{lt-ltb, le-ltb, ne_eqb}
use Rattle.judge.specs.declared.Reply.{Reply}
use Rattle.judge.specs.Judge.{judged, reply}
use Rattle.parts.specs.Parts.{Part, parts_of, past_of, through_of}
use Rattle.parts.specs.Set.{remaining}
use Rattle.parts.specs.SetLaws.{standing}
use Rattle.parts.specs.TurnLaws.{closing_from}
use Rattle.lister.specs.declared.Listed.{Listed}
use Rattle.lister.specs.Lister.{row_numbers, list_reply, list_rows, entry, rows_of}
use Rattle.lister.specs.Listed.{listed_of, listed_first, row_of, AllComplete, Small, Next}
use Rattle.lister.specs.ListedLaws.{some_first, complete_first, row_own, small_own}

-- seven numbers laid out in a row
pub seven : (l : List ℕ) (a b c d e f g : ℕ) → length l ≡ row_numbers
    → set (set (set (set (set (set (set l 0 a) 1 b) 2 c) 3 d) 4 e) 5 f) 6 g ≡ a ∷ b ∷ c ∷ d ∷ e ∷ f ∷ g ∷ []
seven (x₀ ∷ x₁ ∷ x₂ ∷ x₃ ∷ x₄ ∷ x₅ ∷ x₆ ∷ []) a b c d e f g h = refl
seven [] a b c d e f g h = absurd (omega arith)
seven (x₀ ∷ []) a b c d e f g h = absurd (omega arith)
seven (x₀ ∷ x₁ ∷ []) a b c d e f g h = absurd (omega arith)
seven (x₀ ∷ x₁ ∷ x₂ ∷ []) a b c d e f g h = absurd (omega arith)
seven (x₀ ∷ x₁ ∷ x₂ ∷ x₃ ∷ []) a b c d e f g h = absurd (omega arith)
seven (x₀ ∷ x₁ ∷ x₂ ∷ x₃ ∷ x₄ ∷ []) a b c d e f g h = absurd (omega arith)
seven (x₀ ∷ x₁ ∷ x₂ ∷ x₃ ∷ x₄ ∷ x₅ ∷ []) a b c d e f g h = absurd (omega arith)
seven (x₀ ∷ x₁ ∷ x₂ ∷ x₃ ∷ x₄ ∷ x₅ ∷ x₆ ∷ x₇ ∷ xs) a b c d e f g h = absurd (omega arith)

entry_length : (p : Part) → length (entry p) ≡ row_numbers
unfolding entry
entry_length p = refl

rows_of_cons : (ps : List Part) (p : Part) (qs : List Part) → ps ≡ p ∷ qs → rows_of ps ≡ entry p ++ rows_of qs
unfolding rows_of
rows_of_cons ps p qs e = rw e refl

-- One set more.

listed_first_lem : (l : Listed) (ps : List Part) (p : Part) (qs : List Part) → l ≡ listed_first ps → ps ≡ p ∷ qs → l ≡ listed_of p
unfolding listed_first
listed_first_lem l ps p qs e q = e ∙ rw q refl

listed_past : (l : Listed) (p : Part) → l ≡ listed_of p → (l.past ≡ past_of p) × (l.through ≡ through_of p)
unfolding listed_of
listed_past l p e = (ap (λ (x : Listed). x.past) e, ap (λ (x : Listed). x.through) e)

pub next_set : (file : List ℕ) (n at : ℕ) (l : Listed) → at ≤ length file → n ≤ at → AllComplete (remaining file n at) → 0 < length (remaining file n at)
    → l ≡ listed_first (remaining file n at) → Next file n at l
next_set file n at l a few complete h q =
    let first = some_first (remaining file n at) h in
    let p = first.0 in
    let e = first.1.1 in
    let s = standing file n at p first.1.0 a e in
    let found = listed_first_lem l _ p _ q e in
    let by = listed_past l p found in
    let c = closing_from p in
    record {
      part = p;
      others = first.1.0;
      sets = e;
      found = found;
      stands = s;
      onward = omega (arith, by.0, s.from, s.later);
      within = omega (arith, by.0, s.past);
      lines = omega (arith, by.0, by.1, s.count, s.from, s.later);
      rest = s.rest ∙ rw (by.0, by.1) refl;
      complete = (complete_first p _ complete e).1;
    }

pub next_small : {file : List ℕ} {n at : ℕ} {l : Listed} (most : ℕ) → length file ≤ most → n ≤ at → Next file n at l → Small most l
next_small {file} {n} {at} {l} most h few x =
    let s : Small (length file) l = rw x.found (small_own file n at x.part x.others x.stands few) in
    record { past = omega (arith, s.past); lines = s.lines; first = s.first; values = s.values; padding = s.padding }

pub rows_left_lem : {file : List ℕ} {n at : ℕ} {l : Listed} (i : ℕ) → Next file n at l
    → (i + row_numbers) + row_numbers * length (remaining file l.through l.past) ≡ i + row_numbers * length (remaining file n at)
rows_left_lem {file} {n} {at} {l} i x =
    let a : length (remaining file n at) ≡ suc (length x.others) = ap length x.sets in
    let b : length x.others ≡ length (remaining file l.through l.past) = ap length x.rest in
    omega arith

-- one more row is laid out: the rows so far, and those that are left as they were
module _ (file rows ys : List ℕ) (n at i : ℕ) (l : Listed) (x : Next file n at l) (room : i + row_numbers ≤ length rows) (y : ys ≡ row_of l) where
  abbrev laid : List ℕ
  laid = put_mid i (i + row_numbers - i) rows ys

  row_entry : ys ≡ entry x.part
  row_entry = y ∙ ap row_of x.found ∙ row_own x.part

  laid_length : length (take i rows ++ ys) ≡ i + row_numbers
  laid_length = rw (length-append (take i rows) ys, length-take-le i rows (omega arith), row_entry, entry_length) refl

  laid_parts : laid ≡ (take i rows ++ ys) ++ drop (i + row_numbers) rows
  laid_parts = let z : i + (i + row_numbers - i) ≡ i + row_numbers = omega arith in rw (append_assoc, drop-drop, z) refl

  pub rows_turn : take (i + row_numbers) laid ++ rows_of (remaining file l.through l.past) ≡ take i rows ++ rows_of (remaining file n at)
  rows_turn =
      rw (laid_parts, take_at (take i rows ++ ys) (drop (i + row_numbers) rows) (i + row_numbers) laid_length, row_entry, append_assoc)
      (ap (λ (r : List ℕ). take i rows ++ r)
      (ap (λ (r : List Part). entry x.part ++ rows_of r) (sym x.rest) ∙ sym (rows_of_cons (remaining file n at) x.part x.others x.sets)))

  pub rows_kept : (rows₀ : List ℕ) → drop i rows ≡ drop i rows₀ → drop (i + row_numbers) laid ≡ drop (i + row_numbers) rows₀
  rows_kept rows₀ k =
      rw laid_parts (drop_at (take i rows ++ ys) (drop (i + row_numbers) rows) (i + row_numbers) laid_length ∙ sym (drop-drop row_numbers i rows) ∙ ap (drop row_numbers) k ∙ drop-drop row_numbers i rows₀)

pub rows_start : (file rows : List ℕ) → take 0 rows ++ rows_of (remaining file 0 0) ≡ rows_of (parts_of file)
unfolding parts_of
rows_start file rows = refl

-- none is left
pub rows_done : (file rows rows₀ : List ℕ) (n at i : ℕ) → row_numbers * length (parts_of file) ≤ i
    → i + row_numbers * length (remaining file n at) ≡ row_numbers * length (parts_of file) → take i rows ++ rows_of (remaining file n at) ≡ rows_of (parts_of file)
    → drop i rows ≡ drop i rows₀ → rows ≡ rows_of (parts_of file) ++ drop (row_numbers * length (parts_of file)) rows₀
unfolding rows_of
rows_done file rows rows₀ n at i h c r k =
    let w : length (remaining file n at) ≡ 0 = omega arith in
    let z : remaining file n at ≡ [] = none (remaining file n at) w in
    let m : i ≡ row_numbers * length (parts_of file) = omega arith in
    let f : take i rows ≡ rows_of (parts_of file) = sym (append-nil (take i rows)) ∙ ap (λ (x : List Part). take i rows ++ rows_of x) (sym z) ∙ r in
    sym (take-append-drop i rows) ∙ rw (f, k, m) refl
  where
    none : (ps : List Part) → length ps ≡ 0 → ps ≡ []
    none [] e = refl
    none (p ∷ ps) e = absurd (omega arith)

pub rows_count : (file : List ℕ) → 0 + row_numbers * length (remaining file 0 0) ≡ row_numbers * length (parts_of file)
unfolding parts_of
rows_count file = zero-add (row_numbers * length (remaining file 0 0))

pub rows_complete : (file : List ℕ) → AllComplete (parts_of file) → AllComplete (remaining file 0 0)
unfolding parts_of
rows_complete file a = a

-- its places are lent for a row
pub row_length : (rows : List ℕ) (i : ℕ) → i + row_numbers ≤ length rows → length (take (i + row_numbers - i) (drop i rows)) ≡ row_numbers
row_length rows i h = let z : i + row_numbers - i ≡ row_numbers = omega arith in rw z (length-take-le row_numbers (drop i rows) (rw length-drop (omega arith)))

-- the reply and the rows, by the judge's reply and the room
abbrev Answered : List ℕ → List ℕ → Reply → List ℕ → Type 0
Answered file before r after = (r ≡ list_reply file (length before)) × (after ≡ list_rows file before)

module _ (file before : List ℕ) (r : Reply) (j : r ≡ judged file) where
  pub list_refused : 0 < r.number → Answered file before r before
  unfolding list_reply list_rows
  list_refused h =
      let l : 0 < (judged file).number = rw j at h in
      let refused = lt-ltb 0 (judged file).number l in
      (rw refused j, rw (refused, ne_eqb (judged file).number 0 (λ z. omega arith)) refl)

  module _ (a : r.number ≤ 0) (k : ℕ) (q : k ≡ length (parts_of file)) where
    accepted : (judged file).number ≤ 0
    accepted = rw j at a

    pub list_short : length before < row_numbers * k → Answered file before (reply 17 0) before
    unfolding list_reply list_rows
    list_short h =
        let l : length before < row_numbers * length (parts_of file) = rw q at h in
        let none = le-ltb 0 (judged file).number accepted in
        let short = lt-ltb (length before) (row_numbers * length (parts_of file)) l in
        (rw (none, short) refl, rw (none, short) refl)

    pub list_done : (rows : List ℕ) → row_numbers * k ≤ length before → rows ≡ rows_of (parts_of file) ++ drop (row_numbers * length (parts_of file)) before
        → Answered file before (reply 0 k) rows
    unfolding list_reply list_rows
    list_done rows h e =
        let l : row_numbers * length (parts_of file) ≤ length before = rw q at h in
        let none = le-ltb 0 (judged file).number accepted in
        let room = le-ltb (length before) (row_numbers * length (parts_of file)) l in
        (rw (none, room, q) refl, rw (none, room) e)
