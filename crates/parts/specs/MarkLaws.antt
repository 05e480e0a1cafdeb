-- A delimiter is found past blocks of bytes that hold none.
use Rattle.std.specs.Prelude.{◌≡◌, false, Some, None, ◌&&◌, get_or, drop}
use Rattle.std.proofs.Math.Path.{refl}
use Rattle.std.proofs.Common.{◌⊎◌, inl, inr, ap, take_at, drop_at, length-append, sym, ◌∙◌, add-zero, eqb-true, length-take, length-drop, drop_of_length-le, get_or-take, get_or-drop, length-take-le}
use Rattle.std.proofs.Math.Logic.{⊎_elim}
use Rattle.std.proofs.Math.Bool.{Bool, true, not}
use mathlib.Core.List.{List, [], ◌∷◌, ◌++◌}
use Prim.Native.Nat.{ℕ, zero, suc, ◌+◌, ◌-◌, ◌≤◌, ◌<◌}
use Rattle.std.proofs.Math.Numerals.{add-one}
use native.Mathlib.Omega.{arith}
use mir.Val.{bool_byte}
use Rattle.std.proofs.lemmas.Bool.{eqb-false}
use Rattle.std.proofs.Math.Dec.{eqb}
use Rattle.std.proofs.Math.ListN.{length, take, get_or-eq_default}
use Rattle.std.proofs.Math.Seq.{drop-cons, drop-drop}
use Rattle.laws.specs.Choice.{pick}
use Rattle.laws.specs.ChoiceLaws.{and_left, and_right, and_assoc, false_not_true, below_or_not}
use Rattle.laws.specs.Cut.{cut, line_len}
use Rattle.laws.specs.CutLaws.{len_next, len_here}
use Rattle.parts.specs.declared.Spot.{Spot}
use Rattle.parts.specs.Parts.{closes}
use Rattle.parts.specs.PartsLaws.{lines_at_lem, line_length, lines_end}
use Rattle.parts.specs.ShownLaws.{closes_minus}
use Rattle.parts.specs.Mark.{mark, mark_from, marked, mark_after, quiet, ends_in, Passed, LastLine}

-- a loop over bytes that tests them, one that counts LFs
pub quiet_next : (t : Bool) (b c : ℕ) (l bs m cs : List ℕ) → l ≡ b ∷ bs → m ≡ c ∷ cs → (t && not (eqb b 10 && eqb c 45)) && quiet bs cs ≡ t && quiet l m
unfolding quiet
quiet_next t b c l bs m cs p q = rw (p, q) (sym (and_assoc t (not (eqb b 10 && eqb c 45)) (quiet bs cs)))

pub quiet_end : (t : Bool) (l m : List ℕ) → (length l ≡ 0) ⊎ (length m ≡ 0) → t ≡ t && quiet l m
unfolding quiet
quiet_end true [] m h = refl
quiet_end true (b ∷ l) [] h = refl
quiet_end true (b ∷ l) (c ∷ m) (inl h) = absurd (omega arith)
quiet_end true (b ∷ l) (c ∷ m) (inr h) = absurd (omega arith)
quiet_end false l m h = refl

ends_first : (l : List ℕ) (i : ℕ) (t : Bool) → i < length l → eqb (get_or l i 0) 10 ≡ t → ends_in (drop i l) ≡ pick t (suc (ends_in (drop (i + 1) l))) (ends_in (drop (i + 1) l))
unfolding ends_in
ends_first l i t h e = rw (add-one, drop-cons l i 0 h, e) refl

pub ends_byte : (l : List ℕ) (i : ℕ) → i < length l → ends_in (drop i l) ≡ bool_byte (eqb (get_or l i 0) 10) + ends_in (drop (i + 1) l)
ends_byte l i h = ends_first l i (eqb (get_or l i 0) 10) h refl ∙ by (eqb (get_or l i 0) 10) (ends_in (drop (i + 1) l))
  where
    by : (t : Bool) (e : ℕ) → pick t (suc e) e ≡ bool_byte t + e
    by true e = omega arith
    by false e = omega arith

pub byte_most : (r : ℕ) (t : Bool) → r ≡ bool_byte t → r ≤ 1
byte_most r true e = omega arith
byte_most r false e = omega arith

pub ends_none : (l : List ℕ) (i : ℕ) → length l ≤ i → ends_in (drop i l) ≡ 0
unfolding ends_in
ends_none l i h = rw drop_of_length-le

pub ends_most : (l : List ℕ) → ends_in l ≤ length l
unfolding ends_in
ends_most [] = omega arith
ends_most (b ∷ l) = most (eqb b 10) (ends_most l)
  where
    most : (t : Bool) → ends_in l ≤ length l → pick t (suc (ends_in l)) (ends_in l) ≤ suc (length l)
    most true h = omega arith
    most false h = omega arith

pub quiet_blocks : (x y l m : List ℕ) → x ≡ l → y ≡ m → quiet x y ≡ true → quiet l m ≡ true
quiet_blocks x y l m p q e = rw (p, q) at e

-- past a line's bytes its LF is next
pub line_len_past : (l : List ℕ) → line_len (drop (line_len l) l) ≡ 0
unfolding line_len
line_len_past [] = refl
line_len_past (b ∷ l) = by (eqb b 10) refl (line_len_past l)
  where
    by : (t : Bool) → eqb b 10 ≡ t → line_len (drop (line_len l) l) ≡ 0 → line_len (drop (pick t 0 (suc (line_len l))) (b ∷ l)) ≡ 0
    by true e h = rw e refl
    by false e h = h

-- a byte of the first so many
taken_byte : (k i b : ℕ) (l : List ℕ) → 0 < b → get_or (take k l) i 0 ≡ b → get_or l i 0 ≡ b
taken_byte k i b l p h =
    ⊎_elim (λ (a : i < k). sym (get_or-take k l i 0 a) ∙ h)
    (λ (a : k ≤ i). let m : length (take k l) ≤ i = omega (arith, length-take k l) in let z : 0 ≡ b = sym (get_or-eq_default (take k l) 0 m) ∙ h in absurd (omega arith))
    (below_or_not i k)

count_by_lem : (t : Bool) (n e : ℕ) → pick t (suc n) n + e ≡ n + pick t (suc e) e
count_by_lem true n e = omega arith
count_by_lem false n e = refl

-- the last LF before the one that ends the last line, and none
module _ (f : List ℕ) (from closing : ℕ) (a : from < closing) (b : closing ≤ length f + 1) where
  abbrev part : List ℕ
  part = take (closing - 1 - from) (drop from f)

  part_long : length part ≡ closing - 1 - from
  part_long = length-take-le (closing - 1 - from) (drop from f) (omega (arith, length-drop from f))

  part_byte : (j : ℕ) → j < length part → get_or part j 0 ≡ get_or f (from + j) 0
  part_byte j h = get_or-take (closing - 1 - from) (drop from f) j 0 (omega (arith, part_long)) ∙ get_or-drop from f j 0

  later_none : (at : ℕ) → from ≤ at → ((j : ℕ) → at ≤ from + j → j < length part → get_or part j 0 ≡ 10 → ⊥)
      → (k : ℕ) → at ≤ k → k < closing - 1 → get_or f k 0 ≡ 10 → ⊥
  later_none at o n k l h e =
      let z : from + (k - from) ≡ k = omega arith in
      let i : k - from < length part = omega (arith, part_long) in
      n (k - from) (omega arith) i (part_byte (k - from) i ∙ rw z e)

  pub last_found : (k : ℕ) → k < length part → get_or part k 0 ≡ 10 → ((j : ℕ) → k < j → j < length part → get_or part j 0 ≡ 10 → ⊥) → LastLine f from closing (from + k + 1)
  last_found k h e n =
      let z : from + k + 1 - 1 ≡ from + k = omega arith in
      record {
        onward = omega arith;
        before = λ l. omega (arith, part_long);
        none = λ l. absurd (omega arith);
        starts = λ l. rw z (sym (part_byte k h) ∙ e);
        whole = later_none (from + k + 1) (omega arith) (λ j l. n j (omega arith));
      }

  pub last_none : ((j : ℕ) → j < length part → get_or part j 0 ≡ 10 → ⊥) → LastLine f from closing from
  last_none n =
      record {
        onward = omega arith;
        before = λ l. a;
        none = λ l. refl;
        starts = λ l. absurd (omega arith);
        whole = later_none from (omega arith) (λ j l. n j);
      }

module _ (f : List ℕ) where
  -- after the last line there is none
  pub after_none : (n i : ℕ) → length f ≤ i + line_len (drop i f) → None ≡ mark_after f n i
  unfolding mark_after mark_from cut
  after_none n i h = let z : length f ≤ i + line_len (drop i f) + 1 = omega arith in rw (drop_of_length-le f z) refl

  pub after_line : (n i e : ℕ) → e ≡ i + line_len (drop i f) → marked f (n + 1) (e + 1) ≡ mark_after f n i
  unfolding mark_after
  after_line n i e q = rw q refl

  -- a line that is no delimiter
  pub mark_open : (n at e : ℕ) → at ≤ length f → e ≡ at + line_len (drop at f) → closes (take (e - at) (drop at f)) ≡ false → marked f n at ≡ mark_after f n at
  unfolding mark_from
  mark_open n at e a q c = ⊎_elim here none (below_or_not e (length f))
    where
      here : e < length f → marked f n at ≡ mark_after f n at
      here h = rw (lines_at_lem f at e a q h, c, line_length f at e a q h, ← add-one n) (after_line n at e q)

      none : length f ≤ e → marked f n at ≡ mark_after f n at
      none h = rw (lines_end f at e a q h) (after_none n at (rw q at h))

  -- a line that is one, and no line
  pub mark_here : (n at e : ℕ) → at ≤ length f → e ≡ at + line_len (drop at f) → closes (take (e - at) (drop at f)) ≡ true → e < length f → Some (mark n at (e + 1)) ≡ marked f n at
  unfolding mark_from
  mark_here n at e a q c h = rw (lines_at_lem f at e a q h, c, line_length f at e a q h) refl

  pub mark_none : (n at e : ℕ) → at ≤ length f → e ≡ at + line_len (drop at f) → length f ≤ e → None ≡ marked f n at
  unfolding mark_from
  mark_none n at e a q h = rw (lines_end f at e a q h) refl

  -- the byte past its LF
  pub after_end : (n at e : ℕ) → e ≡ at + line_len (drop at f) → mark_after f n at ≡ mark_after f n e
  unfolding mark_after
  after_end n at e q =
      let z : line_len (drop e f) ≡ 0 = rw (q, ← drop-drop (line_len (drop at f)) at f) (line_len_past (drop at f)) in
      let y : at + line_len (drop at f) ≡ e + line_len (drop e f) = omega arith in
      rw y refl

  -- one byte more: no LF, or one with no minus five bytes later
  after_byte : (n i : ℕ) → i < length f → (get_or f i 0 ≡ 10 → ⊥) → mark_after f n i ≡ mark_after f n (suc i)
  unfolding mark_after
  after_byte n i h k =
      let z : i + line_len (drop i f) ≡ suc i + line_len (drop (suc i) f) = omega (arith, rw add-one at (len_next f i h k)) in
      rw z refl

  after_lf : (n i : ℕ) → i < length f → get_or f i 0 ≡ 10 → (get_or f (i + 5) 0 ≡ 45 → ⊥) → mark_after f n i ≡ mark_after f (suc n) (suc i)
  after_lf n i h k m =
      let e : ℕ = suc i + line_len (drop (suc i) f) in
      let z : line_len (drop i f) ≡ 0 = len_here f i h k in
      let y : i ≡ i + line_len (drop i f) = omega arith in
      let x : marked f (n + 1) (i + 1) ≡ marked f (suc n) (suc i) = rw (add-one n, add-one i) refl in
      sym (after_line n i i y) ∙ x ∙ mark_open (suc n) (suc i) e h refl (closes_minus _ far)
    where
      far : get_or (take (suc i + line_len (drop (suc i) f) - suc i) (drop (suc i) f)) 4 0 ≡ 45 → ⊥
      far q =
          let z : suc i + 4 ≡ i + 5 = omega arith in
          m (rw z at (sym (get_or-drop (suc i) f 4 0) ∙ taken_byte (suc i + line_len (drop (suc i) f) - suc i) 4 45 (drop (suc i) f) (omega arith) q))

  after_by : (n i : ℕ) (t u : Bool) → eqb (get_or f i 0) 10 ≡ t → eqb (get_or f (i + 5) 0) 45 ≡ u → not (t && u) ≡ true → i < length f
      → mark_after f n i ≡ mark_after f (pick t (suc n) n) (suc i)
  after_by n i true true p q h k = false_not_true h
  after_by n i true false p q h k = after_lf n i k (eqb-true _ _ p) (eqb-false _ _ q)
  after_by n i false u p q h k = after_byte n i k (eqb-false _ _ p)

  pub after_block : (m n i : ℕ) → i + 5 + m ≤ length f → quiet (take m (drop i f)) (take m (drop (i + 5) f)) ≡ true
      → mark_after f n i ≡ mark_after f (n + ends_in (take m (drop i f))) (i + m)
  unfolding quiet ends_in
  after_block zero n i h q = rw (add-zero, add-zero) refl
  after_block (suc m) n i h q =
      let a : i < length f = omega arith in
      let b : i + 5 < length f = omega arith in
      let z : suc (i + 5) ≡ suc i + 5 = omega arith in
      let x : Bool = eqb (get_or f i 0) 10 in
      let y : Bool = eqb (get_or f (i + 5) 0) 45 in
      let bs : List ℕ = take m (drop (suc i) f) in
      let cs : List ℕ = take m (drop (suc i + 5) f) in
      let both : not (x && y) && quiet bs cs ≡ true = rw (drop-cons f i 0 a, drop-cons f (i + 5) 0 b, z) at q in
      let ih = after_block m (pick x (suc n) n) (suc i) (omega arith) (and_right (not (x && y)) (quiet bs cs) both) in
      let k : suc i + m ≡ i + suc m = omega arith in
      after_by n i x y refl refl (and_left (not (x && y)) (quiet bs cs) both) a ∙ ih ∙ rw (drop-cons f i 0 a, count_by_lem x n (ends_in bs), k) refl

  -- the next block of bytes that are left
  pub block_next : (at : ℕ) (x rest : List ℕ) → drop at f ≡ x ++ rest → length x ≡ 64
      → (x ≡ take 64 (drop at f)) × ((drop (at + 64) f ≡ rest) × (at + 64 ≤ length f))
  block_next at x rest e l = (
    rw e (sym (take_at x rest 64 l)),
    (
      sym (drop-drop 64 at f) ∙ rw e (drop_at x rest 64 l),
      omega (arith, ap length e, length-append x rest, length-drop at f),
    ),
  )

  -- one block more
  pub passed_block : (from before at lines ends : ℕ) → Passed f from before (record { at = at; lines = lines }) → at + 69 ≤ length f
      → quiet (take 64 (drop at f)) (take 64 (drop (at + 5) f)) ≡ true → ends ≡ ends_in (take 64 (drop at f))
      → Passed f from before (record { at = at + 64; lines = lines + ends })
  passed_block from before at lines ends p h b k =
      let m : length (take 64 (drop at f)) ≡ 64 = length-take-le 64 (drop at f) (omega (arith, length-drop at f)) in
      record {
        same = rw k (sym (after_block 64 lines at (omega arith) b)) ∙ p.same;
        onward = omega (arith, p.onward);
        within = omega arith;
        few = omega (arith, p.few, ends_most (take 64 (drop at f)));
      }

  -- past a line that is no delimiter and the blocks after it
  pub mark_past : (n at e : ℕ) (s : Spot) → at ≤ length f → e ≡ at + line_len (drop at f) → closes (take (e - at) (drop at f)) ≡ false → Passed f e n s
      → mark_after f s.lines s.at ≡ marked f n at
  mark_past n at e s a q c p = p.same ∙ sym (after_end n at e q) ∙ sym (mark_open n at e a q c)
